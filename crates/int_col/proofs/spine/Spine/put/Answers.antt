use Rattle.std.proofs.Common.{◌∙◌}
use Rattle.int_col.proofs.Columns.{IsSpine-spliced, put_few}
use Rattle.int_col.proofs.spine.Spine.put.Goals as goal

pub invariant_of-self-2 : goal.invariant_of-self-2
invariant_of-self-2 c =
    let cut = rw (← c.self.view_is) at c.requires.cut in
    rw c.in_ok-replace.ensures.ok
    (IsSpine-spliced c.self.inside.segments c.args.fresh.items c.self.inside.ends c.deref-2.result.now c.in_ok-ends.ends c.args.first c.args.after
    c.self.invariant (c.deref-2.ensures.value ∙ rw c.deref.ensures.value at c.in_ok-counts.ensures.counts) cut c.in_ok-ends.ensures)

pub replace-requires-clause-few : goal.replace-requires-clause-few
replace-requires-clause-few c =
    let in_range = rw (← c.self.view_is) at c.requires.in_range in
    let cut = rw (← c.self.view_is) at c.requires.cut in
    let few = rw (← c.self.view_is) at c.requires.few in
    put_few c.self.inside.segments c.args.fresh.items c.args.first c.args.after c.requires.order in_range cut few
