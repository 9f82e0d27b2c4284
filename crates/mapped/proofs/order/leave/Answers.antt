use Rattle.std.proofs.Common.{ℕ, [], List, length, get_or, ap, sym, subst, ◌∙◌, arith}
use Rattle.std.proofs.lemmas.List.{get_or_default}
use Rattle.std.proofs.lemmas.List.Edits.{length-remove}
use Rattle.relations.specs.WholeOrder.{whole_row_cmp}
use Rattle.mapped.specs.Order.{IsOrderWithout}
use Rattle.mapped.proofs.Moving.{found_at, left}
use Rattle.mapped.proofs.order.leave.Goals as goal

pub remove-requires : goal.remove-requires
remove-requires c =
    let keys = c.args.keys.now in
    let order = c.args.order.now.list in
    let at : ℕ = c.args.at in
    let e = c.place_of-place.ensures in
    let key = c.index-keys-at.is ∙ get_or_default keys at c.index-keys-at.result [] c.requires.there in
    let all = c.requires.order in
    let found = found_at keys order at c.place_of-place.result all c.requires.there e.within
    (λ k p. ap (whole_row_cmp (get_or keys (get_or order k 0) [])) (sym key) ∙ e.below k p)
    (λ k p q less. e.from k p q (ap (whole_row_cmp (get_or keys (get_or order k 0) [])) key ∙ less)) in
    found.0

pub returns-clause-others : goal.returns-clause-others
returns-clause-others c =
    let keys = c.args.keys.now in
    let order = c.args.order.now.list in
    let at : ℕ = c.args.at in
    let e = c.place_of-place.ensures in
    let key = c.index-keys-at.is ∙ get_or_default keys at c.index-keys-at.result [] c.requires.there in
    let all = c.requires.order in
    let found = found_at keys order at c.place_of-place.result all c.requires.there e.within
    (λ k p. ap (whole_row_cmp (get_or keys (get_or order k 0) [])) (sym key) ∙ e.below k p)
    (λ k p q less. e.from k p q (ap (whole_row_cmp (get_or keys (get_or order k 0) [])) key ∙ less)) in
    subst (λ (ks : List ℕ). IsOrderWithout at keys ks) (sym c.remove.ensures.list) (left keys order at c.place_of-place.result all found.0 found.1)

pub returns-clause-fewer : goal.returns-clause-fewer
returns-clause-fewer c =
    let keys = c.args.keys.now in
    let order = c.args.order.now.list in
    let e = c.place_of-place.ensures in
    let key = c.index-keys-at.is ∙ get_or_default keys c.args.at c.index-keys-at.result [] c.requires.there in
    let found = found_at keys order c.args.at c.place_of-place.result c.requires.order c.requires.there e.within
    (λ k p. ap (whole_row_cmp (get_or keys (get_or order k 0) [])) (sym key) ∙ e.below k p)
    (λ k p q less. e.from k p q (ap (whole_row_cmp (get_or keys (get_or order k 0) [])) key ∙ less)) in
    let new = ap length c.remove.ensures.list in
    let long = length-remove order c.place_of-place.result found.0 in
    omega arith
