use Rattle.std.proofs.Common.{ℕ, [], List, get_or, ap, sym, subst, ◌∙◌}
use Rattle.std.proofs.lemmas.List.{get_or_default}
use Rattle.relations.specs.WholeOrder.{whole_row_cmp}
use Rattle.mapped.specs.Order.{IsOrderOf}
use Rattle.mapped.proofs.Moving.{entered}
use Rattle.mapped.proofs.order.enter.Goals as goal

pub returns-clause-order : goal.returns-clause-order
returns-clause-order c =
    let keys = c.args.keys.now in
    let order = c.args.order.now.list in
    let at : ℕ = c.args.at in
    let e = c.place_of-place.ensures in
    let key = c.index-keys-at.is ∙ get_or_default keys at c.index-keys-at.result [] c.requires.there in
    subst (λ (ks : List ℕ). IsOrderOf keys ks) (sym c.insert.ensures.list)
    (entered keys order at c.place_of-place.result c.requires.whole c.requires.others c.requires.there e.within
    (λ k p. ap (whole_row_cmp (get_or keys (get_or order k 0) [])) (sym key) ∙ e.below k p)
    (λ k p q less. e.from k p q (ap (whole_row_cmp (get_or keys (get_or order k 0) [])) key ∙ less)))
