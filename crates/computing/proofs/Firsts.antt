-- The first of a list that passes a test: where it stands, and what the list is without it.
use Rattle.std.proofs.Common.{◌≡◌, ℕ, zero, suc, ◌+◌, ◌<◌, ◌≤◌, Bool, true, false, not, cond, ltb, List, [], ◌∷◌, length, get_or, position, Option, Some, None, refl, ap, ◌∙◌, arith}
use Rattle.std.specs.List.{position_or_len, remove}
use Rattle.std.proofs.lemmas.Bool.Decides.{nat_tests}
use Rattle.std.proofs.lemmas.List.Quantifiers.{position-Some}

no_place : (n m : ℕ) (b : Bool) → ltb n m ≡ b → cond b (Some n) None ≡ None → m ≤ n
no_place n m true e h = absurd (let f : ◌≡◌ {A = Option ℕ} (Some n) None = h in cc)
no_place n m false e h = grind (arith, nat_tests)

one_past : (b : Bool) (n m : ℕ) → suc n ≤ cond (not b) (1 + m) 0 → (b ≡ false) × (n ≤ m)
one_past true n m h = absurd (omega arith)
one_past false n m h = (refl, omega arith)

module _ {X : Type 0} (p : X → Bool) where
  -- it stands at this place
  abbrev pub IsFirst : List X → ℕ → Type 0
  IsFirst [] at = ⊥
  IsFirst (x ∷ xs) zero = p x ≡ true
  IsFirst (x ∷ xs) (suc at) = (p x ≡ false) × IsFirst xs at

  -- none passes
  abbrev pub PassesNone : List X → Type 0
  PassesNone [] = Unit {0}
  PassesNone (x ∷ xs) = (p x ≡ false) × PassesNone xs

  -- that no element before a place passes says that it is the first
  first_from : (xs : List X) (at : ℕ) (d : X) → at < length xs → p (get_or xs at d) ≡ true → ((k : ℕ) → k < at → p (get_or xs k d) ≡ false) → IsFirst xs at
  first_from [] at d within here before = absurd (omega arith)
  first_from (x ∷ xs) zero d within here before = here
  first_from (x ∷ xs) (suc at) d within here before = (before 0 (omega arith), first_from xs at d (omega arith) here (λ k q. before (suc k) (omega arith)))

  pub first_placed : (xs : List X) (at : ℕ) → position p xs ≡ Some at → IsFirst xs at
  first_placed [] at e = absurd (let f : ◌≡◌ {A = Option ℕ} None (Some at) = e in cc)
  first_placed (x ∷ xs) at e =
      let found = position-Some p (x ∷ xs) at x e in
      first_from (x ∷ xs) at x found.0 found.1 found.2

  all_before : (xs : List X) → length xs ≤ position_or_len p xs → PassesNone xs
  all_before [] h = tt
  all_before (x ∷ xs) h =
      let here = one_past (p x) (length xs) (position_or_len p xs) h in
      (here.0, all_before xs here.1)

  pub none_placed : (xs : List X) → position p xs ≡ None → PassesNone xs
  none_placed xs e = all_before xs (no_place (position_or_len p xs) (length xs) (ltb (position_or_len p xs) (length xs)) refl e)

  -- A list made of another, where the first that passes decides: where none does, it is the other.
  pub made_none : (instead : X → List X → List X) (made : List X → List X) → made [] ≡ [] → ((x : X) (xs : List X) → made (x ∷ xs) ≡ cond (p x) (instead x xs) (x ∷ made xs)) → (xs : List X)
      → PassesNone xs → made xs ≡ xs
  made_none instead made at_end step [] h = at_end
  made_none instead made at_end step (x ∷ xs) h =
      step x xs ∙ ap (λ b. cond b (instead x xs) (x ∷ made xs)) h.0 ∙ ap (λ rest. x ∷ rest) (made_none instead made at_end step xs h.1)

  -- without the first
  pub removed_first : (made : List X → List X) → ((x : X) (xs : List X) → made (x ∷ xs) ≡ cond (p x) xs (x ∷ made xs)) → (xs : List X) (at : ℕ) → IsFirst xs at → made xs ≡ remove xs at
  removed_first made step [] at h = absurd h
  removed_first made step (x ∷ xs) zero h = step x xs ∙ ap (λ b. cond b xs (x ∷ made xs)) h
  removed_first made step (x ∷ xs) (suc at) h = step x xs ∙ ap (λ b. cond b xs (x ∷ made xs)) h.0 ∙ ap (λ rest. x ∷ rest) (removed_first made step xs at h.1)
