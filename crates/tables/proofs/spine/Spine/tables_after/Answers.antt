use Rattle.std.proofs.Common.{arith}
use Rattle.segments.proofs.Joined.{stop_within}
use Rattle.tables.proofs.spine.Spine.tables_after.Goals as goal

pub push_part-requires-2 : goal.push_part-requires-2
push_part-requires-2 c =
    omega (arith, c.requires.covers.behind, stop_within c.args.self.now c.args.splice.now c.args.replaced.now c.requires.covers)
