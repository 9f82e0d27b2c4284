use Rattle.std.proofs.Common.{◌<◌, length, get_or, arith}
use Rattle.std.proofs.lemmas.List.{get_or_default}
use Rattle.std.proofs.lemmas.List.Edits.{map_over_more}
use Rattle.derived.proofs.derived.look_up.Goals as goal

pub loop-position-preserved : goal.loop-position-preserved
loop-position-preserved c =
    let i = c.loop-position.position-index in
    let here = get_or c.loop-position.positions i 0 in
    let test = c.loop-position-test.true in
    let long = c.loop-position.auto.positions in
    let within : i < length c.loop-position.positions = omega arith in
    map_over_more (λ i. get_or c.args.below.now i 0) c.args.positions.now c.loop-position.positions i here test c.loop-position.invariant (get_or_default c.loop-position.positions i 0 here within)
