use Rattle.std.proofs.Common.{arith}
use Rattle.segments.proofs.Counted.{segments_len}
use Rattle.int_col.proofs.spine.Spine.segments.Goals as goal

pub returns-clause-few : goal.returns-clause-few
returns-clause-few c =
    rw (← c.self.view_is) (omega (arith, c.count.ensures.few, segments_len c.self.inside.segments c.self.inside.ends c.self.invariant.counted))
