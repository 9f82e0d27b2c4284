use Rattle.std.proofs.Common.{◌<◌, ◌^◌, arith}
use Rattle.dir_codec.proofs.WholeRead.{accepts, finds_flaw}
use Rattle.dir_codec.proofs.decoding.decode.Goals as goal

pub returns-clause-accepted : goal.returns-clause-accepted
returns-clause-accepted c = λ d is spells.
    let number_fits : c.args.number < 2 ^ 64 = let f = c.ranges.number in omega (arith, f) in
    let end_fits : c.args.end < 2 ^ 64 = let f = c.ranges.end in omega (arith, f) in
    accepts c.args.version c.args.number c.args.end c.args.bytes.now number_fits end_fits d c.read_whole.result is spells c.read_whole.ensures.found c.read_whole.ensures.refused

pub returns-clause-flaw : goal.returns-clause-flaw
returns-clause-flaw c = λ place flaw.
    let number_fits : c.args.number < 2 ^ 64 = let f = c.ranges.number in omega (arith, f) in
    let end_fits : c.args.end < 2 ^ 64 = let f = c.ranges.end in omega (arith, f) in
    finds_flaw c.args.version c.args.number c.args.end c.args.bytes.now number_fits end_fits place c.read_whole.result flaw c.read_whole.ensures.found c.read_whole.ensures.refused
