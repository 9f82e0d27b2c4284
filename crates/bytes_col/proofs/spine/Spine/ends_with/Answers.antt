use Rattle.std.proofs.Common.{ap, ◌∙◌}
use Rattle.std.proofs.lemmas.Result.{IfOk-weaker}
use Rattle.segments.specs.Joined.{counts_of}
use Rattle.bytes_col.proofs.Columns.{IsSpine-spliced, spliced_few}
use Rattle.bytes_col.proofs.spine.Spine.ends_with.Goals as goal

pub returns-clause-ends : goal.returns-clause-ends
returns-clause-ends c =
    rw (← c.self.view_is)
    (IfOk-weaker c.spliced.result _ _
    (λ ends is. IsSpine-spliced c.self.inside.chunks c.args.fresh.now c.self.inside.ends c.deref.result.now ends c.args.first c.args.after
    c.self.invariant c.as_slice.ensures.some (c.deref.ensures.value ∙ c.in_ok-counts.ensures.counts ∙ ap counts_of c.as_slice.ensures.items) is)
    c.spliced.ensures)

pub returns-clause-few : goal.returns-clause-few
returns-clause-few c =
    let in_range = rw (← c.self.view_is) at c.requires.in_range in
    let few = rw (← c.self.view_is) at c.requires.few in
    rw (← c.self.view_is) (spliced_few c.self.inside.chunks c.args.fresh.now c.args.first c.args.after c.requires.order in_range c.self.invariant.some c.as_slice.ensures.some few)

pub returns-in_err-counts-clause-few : goal.returns-in_err-counts-clause-few
returns-in_err-counts-clause-few c =
    let in_range = rw (← c.self.view_is) at c.requires.in_range in
    let few = rw (← c.self.view_is) at c.requires.few in
    rw (← c.self.view_is) (spliced_few c.self.inside.chunks c.args.fresh.now c.args.first c.args.after c.requires.order in_range c.self.invariant.some c.as_slice.ensures.some few)
