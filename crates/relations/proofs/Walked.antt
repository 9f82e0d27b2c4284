-- Two lists compared element by element.
use Rattle.std.proofs.Common.{◌≡◌, ◌⊎◌, ℕ, zero, suc, ◌+◌, ◌≤◌, true, false, min, List, [], ◌∷◌, length, drop, refl, ap, sym, ◌∙◌, inl, inr, arith}
use Rattle.std.specs.declared.cmp.Ordering.{Ordering}
use Rattle.std.specs.declared.cmp.Ordering.TheVariants.{Less, Equal, Greater}
use Rattle.std.specs.Ordering.{is_ne, nat_cmp, ordering_then, ordering_reverse}
use Rattle.std.specs.Cmp.{nat_cmp_total}
use Rattle.std.specs.Cmp.Lexicographic.{slice_cmp}
use Rattle.std.proofs.lemmas.Bool.{false≢true, cases_lt, cases_order}
use Rattle.std.proofs.lemmas.Cmp.{tied_itself}
use Rattle.relations.proofs.Ascending.{less_nat}

module _ {X : Type 0} (R : X → X → Ordering) where
  then_first : (o p : Ordering) → (o ≡ Equal → ⊥) → ordering_then o p ≡ o
  then_first Less p n = refl
  then_first Equal p n = absurd (n refl)
  then_first Greater p n = refl

  -- the first elements tie
  pub walk_on : (xs ys : List X) (i : ℕ) (x y : X) → drop i xs ≡ x ∷ drop (i + 1) xs → drop i ys ≡ y ∷ drop (i + 1) ys → R x y ≡ Equal
      → slice_cmp R xs ys ≡ slice_cmp R (drop i xs) (drop i ys) → slice_cmp R xs ys ≡ slice_cmp R (drop (i + 1) xs) (drop (i + 1) ys)
  walk_on xs ys i x y e f tied before =
      before ∙ ap (λ zs. slice_cmp R zs (drop i ys)) e ∙ ap (λ zs. slice_cmp R (x ∷ drop (i + 1) xs) zs) f
      ∙ ap (λ o. ordering_then o (slice_cmp R (drop (i + 1) xs) (drop (i + 1) ys))) tied

  -- the first elements differ
  pub walk_ends : (xs ys : List X) (i : ℕ) (x y : X) → drop i xs ≡ x ∷ drop (i + 1) xs → drop i ys ≡ y ∷ drop (i + 1) ys → (R x y ≡ Equal → ⊥)
      → slice_cmp R xs ys ≡ slice_cmp R (drop i xs) (drop i ys) → slice_cmp R xs ys ≡ R x y
  walk_ends xs ys i x y e f apart before =
      before ∙ ap (λ zs. slice_cmp R zs (drop i ys)) e ∙ ap (λ zs. slice_cmp R (x ∷ drop (i + 1) xs) zs) f
      ∙ then_first (R x y) (slice_cmp R (drop (i + 1) xs) (drop (i + 1) ys)) apart

  nat_cmp_suc : (a b : ℕ) → nat_cmp a b ≡ nat_cmp (suc a) (suc b)
  nat_cmp_suc a b = elim (cases_order a b) [
    | inl e ↦ ap (nat_cmp a) (sym e) ∙ tied_itself nat_cmp_total a ∙ sym (tied_itself nat_cmp_total (suc a)) ∙ ap (λ n. nat_cmp (suc a) (suc n)) e
    | inr h ↦ elim h [
      | inl p ↦ less_nat a b p ∙ sym (less_nat (suc a) (suc b) (omega arith))
      | inr p ↦ nat_cmp_total.antisymm a b ∙ ap ordering_reverse (less_nat b a p ∙ sym (less_nat (suc b) (suc a) (omega arith))) ∙ sym (nat_cmp_total.antisymm (suc a) (suc b))
    ]
  ]

  rest : (xs ys : List X) (n : ℕ) → n ≤ length xs → n ≤ length ys → (length xs ≤ n) ⊎ (length ys ≤ n) → slice_cmp R (drop n xs) (drop n ys) ≡ nat_cmp (length xs) (length ys)
  rest [] [] zero p q h = refl
  rest [] (y ∷ ys) zero p q h = sym (less_nat 0 (length (y ∷ ys)) (omega arith))
  rest (x ∷ xs) [] zero p q h = sym (nat_cmp_total.antisymm (length (x ∷ xs)) 0 ∙ ap ordering_reverse (less_nat 0 (length (x ∷ xs)) (omega arith)))
  rest (x ∷ xs) (y ∷ ys) zero p q h = elim h [ inl r ↦ absurd (omega arith) | inr r ↦ absurd (omega arith) ]
  rest [] ys (suc n) p q h = absurd (omega arith)
  rest (x ∷ xs) [] (suc n) p q h = absurd (omega arith)
  rest (x ∷ xs) (y ∷ ys) (suc n) p q h =
      let more : (length xs ≤ n) ⊎ (length ys ≤ n) = elim h [ inl r ↦ inl (omega arith) | inr r ↦ inr (omega arith) ] in
      rest xs ys n (omega arith) (omega arith) more ∙ nat_cmp_suc (length xs) (length ys)

  -- one of the two is at its end
  pub walk_over : (xs ys : List X) (n : ℕ) → n ≤ length xs → n ≤ length ys → (length xs ≤ n) ⊎ (length ys ≤ n) → slice_cmp R xs ys ≡ slice_cmp R (drop n xs) (drop n ys)
      → slice_cmp R xs ys ≡ nat_cmp (length xs) (length ys)
  walk_over xs ys n p q h before = before ∙ rest xs ys n p q h

-- what a test for a difference tells
pub ne_false : (o : Ordering) → is_ne o ≡ false → o ≡ Equal
ne_false Less e = absurd (false≢true (sym e))
ne_false Equal e = refl
ne_false Greater e = absurd (false≢true (sym e))

pub ne_true : (o : Ordering) → is_ne o ≡ true → o ≡ Equal → ⊥
ne_true o e f = false≢true (sym (ap is_ne f) ∙ e)

-- what the smaller of two lengths ends
pub min_ends : (m n k : ℕ) → k ≡ min m n → (k ≤ m) × (k ≤ n) × ((m ≤ k) ⊎ (n ≤ k))
min_ends m n k e = elim (cases_lt m n) [ inl p ↦ (omega arith, omega arith, inl (omega arith)) | inr p ↦ (omega arith, omega arith, inr (omega arith)) ]
