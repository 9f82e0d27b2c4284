use Rattle.std.proofs.Common.{◌≡◌, ◌≢◌, ◌<◌, ℕ, true, false, [], length, get_or, Some, ap, sym, subst, ◌∙◌, arith}
use Rattle.std.specs.Ordering.{is_eq}
use Rattle.std.proofs.lemmas.List.{get_or_default}
use Rattle.std.proofs.lemmas.Option.{slice_get-get_or}
use Rattle.relations.specs.WholeOrder.{whole_row_cmp}
use Rattle.mapped.proofs.Finding.{key_found, key_missing}
use Rattle.mapped.proofs.Moving.{missed}
use Rattle.mapped.proofs.Sorting.{tied_from}
use Rattle.mapped.proofs.order.find.Goals as goal

pub returns-then-is_eq-clause-value : goal.returns-then-is_eq-clause-value
returns-then-is_eq-clause-value c =
    let keys = c.args.keys.now in
    let row : ℕ = c.get-row.result in
    let l = c.len.ensures.len in
    let t = c.if-place-len.true in
    let low : c.place_of-place.result < length c.args.order.now.list = omega arith in
    let there = subst (λ i. i < length keys) (sym c.get-row.ensures) (c.requires.ordered.ordered.within c.place_of-place.result 0 low) in
    let here = c.index-keys-row.is ∙ get_or_default keys row c.index-keys-row.result [] there in
    let same = tied_from c.index-keys-row.result c.args.key.now (ap is_eq (sym c.cmp_whole_row.ensures) ∙ sym c.is_eq.ensures ∙ c.if-is_eq.true) in
    sym (key_found keys c.args.key.now row c.requires.whole there (sym here ∙ same))

pub returns-then-is_eq-clause-found : goal.returns-then-is_eq-clause-found
returns-then-is_eq-clause-found c =
    let keys = c.args.keys.now in
    let row : ℕ = c.get-row.result in
    let l = c.len.ensures.len in
    let t = c.if-place-len.true in
    let low : c.place_of-place.result < length c.args.order.now.list = omega arith in
    let there = subst (λ i. i < length keys) (sym c.get-row.ensures) (c.requires.ordered.ordered.within c.place_of-place.result 0 low) in
    let same = tied_from c.index-keys-row.result c.args.key.now (ap is_eq (sym c.cmp_whole_row.ensures) ∙ sym c.is_eq.ensures ∙ c.if-is_eq.true) in
    slice_get-get_or keys row c.index-keys-row.result there ∙ ap Some (sym c.index-keys-row.is ∙ same)

away : (c : goal.Else-is_eq) → (i : ℕ) → i < length c.args.keys.now → get_or c.args.keys.now i [] ≢ c.args.key.now
away c =
    let keys = c.args.keys.now in
    let e = c.place_of-place.ensures in
    let row : ℕ = c.get-row.result in
    let l = c.len.ensures.len in
    let t = c.if-place-len.true in
    let low : c.place_of-place.result < length c.args.order.now.list = omega arith in
    let there = subst (λ i. i < length keys) (sym c.get-row.ensures) (c.requires.ordered.ordered.within c.place_of-place.result 0 low) in
    let here = c.index-keys-row.is ∙ get_or_default keys row c.index-keys-row.result [] there ∙ ap (λ i. get_or keys i []) c.get-row.ensures in
    missed keys c.args.order.now.list c.args.key.now c.place_of-place.result c.requires e.within e.below e.from
    (λ _ tie. true_false (sym (sym c.is_eq.ensures ∙ c.if-is_eq.false) ∙ ap is_eq (c.cmp_whole_row.ensures ∙ ap (λ z. whole_row_cmp z c.args.key.now) here ∙ tie)))
  where
    true_false : false ≡ true → ⊥
    true_false e = cc

pub returns-else-is_eq-clause-value : goal.returns-else-is_eq-clause-value
returns-else-is_eq-clause-value c = sym (key_missing c.args.keys.now c.args.key.now (away c))

pub returns-else-is_eq-clause-none : goal.returns-else-is_eq-clause-none
returns-else-is_eq-clause-none c has = away c has.0 has.1 (get_or_default c.args.keys.now has.0 [] c.args.key.now has.1 ∙ has.2)

past : (c : goal.Else-place-len) → (i : ℕ) → i < length c.args.keys.now → get_or c.args.keys.now i [] ≢ c.args.key.now
past c =
    let e = c.place_of-place.ensures in
    let l = c.len.ensures.len in
    let last = c.if-place-len.false in
    missed c.args.keys.now c.args.order.now.list c.args.key.now c.place_of-place.result c.requires e.within e.below e.from (λ inside. absurd (omega arith))

pub returns-else-place-len-clause-value : goal.returns-else-place-len-clause-value
returns-else-place-len-clause-value c = sym (key_missing c.args.keys.now c.args.key.now (past c))

pub returns-else-place-len-clause-none : goal.returns-else-place-len-clause-none
returns-else-place-len-clause-none c has = past c has.0 has.1 (get_or_default c.args.keys.now has.0 [] c.args.key.now has.1 ∙ has.2)
