use Rattle.int_col.proofs.Grown.{IsSpine-front}
use Rattle.int_col.proofs.spine.Spine.without_last.Goals as goal

pub invariant_of-result : goal.invariant_of-result
invariant_of-result c =
    rw (c.in_ok-without_last.ensures)
    (IsSpine-front c.self.inside.segments c.self.inside.ends c.in_ok-spliced.field-0 c.count-count.result c.self.invariant c.count-count.ensures.count c.in_ok-spliced.ensures)
