use Rattle.std.proofs.Common.{sym, subst, ◌∙◌}
use Rattle.std.proofs.lemmas.List.{take_all}
use Rattle.view_store.specs.Views.{IsRoot}
use Rattle.view_store.proofs.root.Root.same.Goals as goal

pub invariant_of-result : goal.invariant_of-result
invariant_of-result c =
    let names = c.loop-name.invariant ∙ take_all c.loop-name.name-index c.as_slice-name-items.result.now c.loop-name-test.false ∙ c.as_slice-name-items.ensures in
    subst (λ ns. IsRoot ns c.in_ok-tables.tables.items) (sym names) (subst (λ ts. IsRoot c.self.inside.names ts) (sym (c.in_ok-tables.ensures.items_if_clones_equal (λ _ _ e. e) ∙ c.deref.ensures.value)) c.self.invariant)
