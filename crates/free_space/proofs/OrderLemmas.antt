-- Lists of spans in order of place, and pairs of them that do not meet.
use Rattle.std.proofs.Common.{ℕ, suc, zero, ◌≡◌, ◌+◌, ◌-◌, ◌<◌, ◌≤◌, ◌⊎◌, List, length, get_or, refl, ap, add-one, inl, inr, arith, AllPairs, IsPermutation}
use Rattle.std.specs.List.{AllAdjacentBelow, insert, swap}
use Rattle.std.proofs.lemmas.Bool.{cases_lt, cases_eq, cases_order}
use Rattle.std.proofs.lemmas.List.Edits.{length-insert, get_or-insert_below, get_or-insert_at, get_or-insert_above, swapped_from_swap, Swapped, length-swap}
use Rattle.std.proofs.lemmas.List.Sorted.{IsPermutation-keeps}
use Rattle.mk_value.specs.declared.span.Span.{Span}
use Rattle.free_space.specs.Extents.{AreApart, AreInOrder, Meets, extent_end}
use Rattle.free_space.proofs.ExtentLemmas.{apart_from_end, apart_sym}

-- how a swap of i and j moves the element at a place
Turned : ℕ → ℕ → ℕ → ℕ → Type 0
Turned i j place from = ((place ≡ i) × (from ≡ j)) ⊎ (((place ≡ j) × (from ≡ i)) ⊎ ((place ≡ i → ⊥) × (place ≡ j → ⊥) × (from ≡ place)))

from_apart : (i j a b from to : ℕ) → Turned i j a from → Turned i j b to → a < b → from ≡ to → ⊥
unfolding Turned
from_apart i j a b from to (inl p) (inl q) lower same = omega arith
from_apart i j a b from to (inl p) (inr (inl q)) lower same = omega arith
from_apart i j a b from to (inl p) (inr (inr q)) lower same = q.1 (omega arith)
from_apart i j a b from to (inr (inl p)) (inl q) lower same = omega arith
from_apart i j a b from to (inr (inl p)) (inr (inl q)) lower same = omega arith
from_apart i j a b from to (inr (inl p)) (inr (inr q)) lower same = q.0 (omega arith)
from_apart i j a b from to (inr (inr p)) (inl q) lower same = p.1 (omega arith)
from_apart i j a b from to (inr (inr p)) (inr (inl q)) lower same = p.0 (omega arith)
from_apart i j a b from to (inr (inr p)) (inr (inr q)) lower same = omega arith

-- where the element at a place stood before the swap
record StoodAt {X : Type 0} (xs ys : List X) (i j : ℕ) (d : X) (at : ℕ) : Type 0 where
  place : ℕ
  inside : place < length xs
  is : get_or ys at d ≡ get_or xs place d
  turned : Turned i j at place

moved_from : {X : Type 0} (xs ys : List X) (i j : ℕ) (d : X) → i < length xs → j < length xs → Swapped (λ k. get_or xs k d) (λ k. get_or ys k d) i j → (at : ℕ) → at < length xs → StoodAt xs ys i j d at
unfolding Turned
moved_from xs ys i j d left right moved at within = elim (cases_eq at i) [
  | inl first ↦ record { place = j; inside = right; is = rw first moved.0; turned = inl (first, refl) }
  | inr not_first ↦ elim (cases_eq at j) [
    | inl second ↦ record { place = i; inside = left; is = rw second moved.1; turned = inr (inl (second, refl)) }
    | inr not_second ↦ record { place = at; inside = within; is = moved.2 at not_first not_second; turned = inr (inr (not_first, not_second, refl)) }
  ]
]

-- ---- pairs of a list

module _ {X : Type 0} (R : X → X → Type 0) where
  -- an element that goes in between those that are related to it and those that it is related to
  pub all_pairs_insert : (xs : List X) (i : ℕ) (y : X) → i ≤ length xs → AllPairs R xs → ((k : ℕ) (d : X) → k < i → R (get_or xs k d) y) → ((k : ℕ) (d : X) → i ≤ k → k < length xs → R y (get_or xs k d)) → AllPairs R (insert xs i y)
  all_pairs_insert xs i y inside pairs before after = λ a b d lower within.
      let total : length (insert xs i y) ≡ length xs + 1 = length-insert xs i y inside in
      elim (cases_order b i) [
        | inl same ↦ rw (same, get_or-insert_at xs i y d inside, get_or-insert_below xs i y d a (omega arith) inside) (before a d (omega arith))
        | inr (inl less) ↦ rw (get_or-insert_below xs i y d a (omega arith) inside, get_or-insert_below xs i y d b less inside) (pairs a b d lower (omega arith))
        | inr (inr more) ↦
            let step : b ≡ (b - 1) + 1 = omega arith in
            let later : get_or (insert xs i y) b d ≡ get_or xs (b - 1) d = rw (ap (λ k. get_or (insert xs i y) k d) step) (get_or-insert_above xs i y d (b - 1) (omega arith) inside) in
            rw later (past xs i y inside pairs after a (b - 1) d (omega arith) (omega arith) (omega arith) before)
      ]
    where
      past : (xs : List X) (i : ℕ) (y : X) → i ≤ length xs → AllPairs R xs → ((k : ℕ) (d : X) → i ≤ k → k < length xs → R y (get_or xs k d)) → (a b : ℕ) (d : X) → a ≤ b → i ≤ b → b < length xs → ((k : ℕ) (d : X) → k < i → R (get_or xs k d) y) → R (get_or (insert xs i y) a d) (get_or xs b d)
      past xs i y inside pairs after a b d lower from within before = elim (cases_order a i) [
        | inl same ↦ rw (same, get_or-insert_at xs i y d inside) (after b d from within)
        | inr (inl less) ↦ rw (get_or-insert_below xs i y d a less inside) (pairs a b d (omega arith) within)
        | inr (inr more) ↦
            let step : a ≡ (a - 1) + 1 = omega arith in
            let earlier : get_or (insert xs i y) a d ≡ get_or xs (a - 1) d = rw (ap (λ k. get_or (insert xs i y) k d) step) (get_or-insert_above xs i y d (a - 1) (omega arith) inside) in
            rw earlier (pairs (a - 1) b d (omega arith) within)
      ]

  -- under a relation that goes both ways, two elements at different places are related, whichever comes first
  all_distinct : ((x y : X) → R x y → R y x) → (xs : List X) → AllPairs R xs → (i j : ℕ) (d : X) → (i ≡ j → ⊥) → i < length xs → j < length xs → R (get_or xs i d) (get_or xs j d)
  all_distinct turn xs pairs i j d differ left right = elim (cases_order i j) [
    | inl same ↦ absurd (differ same)
    | inr (inl less) ↦ pairs i j d less right
    | inr (inr more) ↦ turn _ _ (pairs j i d more left)
  ]

  -- the two elements that a swap turns round
  swap_keeps_pairs : ((x y : X) → R x y → R y x) → (xs : List X) (i j : ℕ) → i < length xs → j < length xs → AllPairs R xs → AllPairs R (swap xs i j)
  swap_keeps_pairs turn xs i j left right pairs = λ a b d lower within.
      let moved = swapped_from_swap xs (swap xs i j) i j d left right refl in
      let size : length (swap xs i j) ≡ length xs = length-swap xs i j in
      let from = moved_from xs (swap xs i j) i j d left right moved a (omega arith) in
      let to = moved_from xs (swap xs i j) i j d left right moved b (omega arith) in
      rw (from.is, to.is) (all_distinct turn xs pairs from.place to.place d (from_apart i j a b from.place to.place from.turned to.turned (omega arith)) from.inside to.inside)

  -- a relation that goes both ways and holds of each pair holds of each pair in any order of the list
  pub all_pairs_permutation : ((x y : X) → R x y → R y x) → (xs ys : List X) → IsPermutation xs ys → AllPairs R xs → AllPairs R ys
  all_pairs_permutation turn xs ys same pairs = IsPermutation-keeps xs (AllPairs R) pairs (λ l i j left right so_far. swap_keeps_pairs turn l i j left right so_far) ys same

-- ---- spans

-- extents that do not meet do so in any order of the list
pub apart_permutation : (spans other : List Span) → IsPermutation spans other → AreApart spans → AreApart other
apart_permutation spans other same apart = let Apart : Span → Span → Type 0 = λ one later. ¬ Meets one later in all_pairs_permutation Apart (λ one later gap. apart_sym one later gap) spans other same apart

-- spans in order of place do not meet
pub apart_from_order : (spans : List Span) → AreInOrder spans → AreApart spans
apart_from_order spans ordered = λ i j d lower within. apart_from_end (get_or spans i d) (get_or spans j d) (ordered i j d lower within)

-- where each extent ends before the next begins, each ends before all later ones
pub order_from_neighbors : (spans : List Span) → AllAdjacentBelow (λ one next. extent_end one ≤ next.place) spans (length spans) → AreInOrder spans
order_from_neighbors spans neighbors = λ i j d lower within. reach i j d lower within
  where
    reach : (i j : ℕ) (d : Span) → i < j → j < length spans → extent_end (get_or spans i d) ≤ (get_or spans j d).place
    reach i zero d lower within = absurd (omega arith)
    reach i (suc j) d lower within =
        let step : extent_end (get_or spans j d) ≤ (get_or spans (j + 1) d).place = neighbors j d (omega arith) in
        elim (cases_lt i j) [
          | inl before ↦
              let so_far : extent_end (get_or spans i d) ≤ (get_or spans j d).place = reach i j d before (omega arith) in
              rw (← add-one) (omega arith)
          | inr at ↦ let here : i ≡ j = omega arith in rw (← add-one, here) step
        ]
