use Rattle.std.proofs.Common.{◌∙◌}
use Rattle.tables.proofs.Chunks.{few_spliced, IsSpine-spliced}
use Rattle.tables.proofs.spine.Spine.put.Goals as goal

pub replace-requires-clause-few : goal.replace-requires-clause-few
replace-requires-clause-few c =
    few_spliced c.self.inside.chunks c.args.fresh.items c.args.first c.args.after c.self.invariant.some c.requires.some c.requires.order
    (rw (← c.self.view_is) at c.requires.in_range) (rw (← c.self.view_is) at c.requires.few)

pub invariant_of-self-2 : goal.invariant_of-self-2
invariant_of-self-2 c =
    rw c.in_ok-replace.ensures.ok
    (IsSpine-spliced c.self.inside.chunks c.args.fresh.items c.self.inside.ends c.deref-2.result.now c.in_ok-ends.ends c.args.first c.args.after
    c.self.invariant (c.deref-2.ensures.value ∙ rw c.deref.ensures.value at c.in_ok-counts.ensures) c.requires.some c.requires.each c.in_ok-ends.ensures)
