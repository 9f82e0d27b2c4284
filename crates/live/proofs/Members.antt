-- Elements of joined lists, and the numbers below a length.
pub use Rattle.row_edits.proofs.Filtered.{in_filter, filter_in}
use Rattle.std.proofs.Common.{◌≡◌, ◌⊎◌, ℕ, zero, suc, ◌<◌, List, [], ◌∷◌, ◌++◌, arith, inl, inr}
use Rattle.std.proofs.lemmas.Bool.{cases_lt}
use Rattle.relations.specs.Positions.{numbers}
use Rattle.relations.proofs.Ascending.{IsIn}

-- elements of joined lists
module _ {X : Type 0} where
  pub in_left : (xs ys : List X) (z : X) → IsIn z xs → IsIn z (xs ++ ys)
  in_left [] ys z h = absurd h
  in_left (x ∷ xs) ys z (inl e) = inl e
  in_left (x ∷ xs) ys z (inr h) = inr (in_left xs ys z h)

  pub in_right : (xs ys : List X) (z : X) → IsIn z ys → IsIn z (xs ++ ys)
  in_right [] ys z h = h
  in_right (x ∷ xs) ys z h = inr (in_right xs ys z h)

  pub in_append : (xs ys : List X) (z : X) → IsIn z (xs ++ ys) → IsIn z xs ⊎ IsIn z ys
  in_append [] ys z h = inr h
  in_append (x ∷ xs) ys z (inl e) = inl (inl e)
  in_append (x ∷ xs) ys z (inr h) = elim (in_append xs ys z h) [ inl a ↦ inl (inr a) | inr b ↦ inr b ]

-- the numbers below n are those below n
pub in_numbers : (n i : ℕ) → IsIn i (numbers n) → i < n
in_numbers zero i h = absurd h
in_numbers (suc n) i h = elim (in_append (numbers n) (n ∷ []) i h) [
  | inl g ↦ let p = in_numbers n i g in omega arith
  | inr g ↦ elim g [ inl e ↦ omega arith | inr f ↦ absurd f ]
]

pub numbers_in : (n i : ℕ) → i < n → IsIn i (numbers n)
numbers_in zero i p = absurd (omega arith)
numbers_in (suc n) i p = elim (cases_lt i n) [
  | inl q ↦ in_left (numbers n) (n ∷ []) i (numbers_in n i q)
  | inr q ↦ in_right (numbers n) (n ∷ []) i (inl (let e : n ≡ i = omega arith in e))
]
