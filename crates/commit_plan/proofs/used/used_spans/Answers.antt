use Rattle.std.proofs.Common.{◌∙◌, ◌++◌, [], ◌∷◌, ap, sym}
use Rattle.std.specs.List.{filter, flat_map}
use Rattle.std.proofs.lemmas.List.{take_all}
use Rattle.std.proofs.lemmas.List.Elements.{filter-append}
use Rattle.tables.specs.Rests.{blocks}
use Rattle.recovery.specs.Commits.{plain_views}
use Rattle.commit_plan.specs.Placing.{has_bytes}
use Rattle.commit_plan.proofs.ViewColumns.{leaf_spans, leaves_used}
use Rattle.commit_plan.proofs.used.used_spans.Goals as goal

pub returns : goal.returns
returns c =
    let columns = plain_views c.args.views.now in
    c.in_ok-push_span.ensures
    ∙ ap (λ ss. ss ++ filter has_bytes (c.args.dir ∷ [])) (c.leaves.invariant ∙ ap (flat_map leaf_spans) (take_all c.leaves.leaf-index c.as_slice-leaf-items.result.now c.leaves-test.false ∙ c.as_slice-leaf-items.ensures.value)
    ∙ leaves_used columns c.in_ok-leaves.leaves.items c.in_ok-leaves.ensures)
    ∙ sym (filter-append has_bytes (blocks columns) (c.args.dir ∷ []))
