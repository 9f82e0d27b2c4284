use Rattle.bytes_col.proofs.spine.Spine.put.Goals as goal

pub invariant_of-self-2 : goal.invariant_of-self-2
invariant_of-self-2 c = rw (c.in_ok-replace.ensures.ok, c.into_items.ensures) (rw (← c.self.view_is) at c.in_ok-ends.ensures.ends)
