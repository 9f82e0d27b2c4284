use Rattle.std.proofs.Common.{length, ap, arith}
use Rattle.std.specs.List.{concat}
use Rattle.places.proofs.Passes.{kept_few}
use Rattle.places.proofs.edits.remove_positions.Goals as goal

pub tidy-requires-clause-few : goal.tidy-requires-clause-few
tidy-requires-clause-few c =
    let few = kept_few c.args.low c.args.count (concat c.args.chunks.now.items) in
    let old = c.requires.held.few in
    let e = ap length c.close.ensures.list in
    omega arith
