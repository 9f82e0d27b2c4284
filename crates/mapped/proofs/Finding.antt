-- The first element of a list, or number below another, that passes a test.
use Rattle.std.proofs.Common.{◌≡◌, ◌≢◌, ℕ, zero, suc, ◌<◌, Bool, true, false, cond, nat_lt, List, [], ◌∷◌, length, get_or, Some, None, refl, ap, sym, ◌∙◌, arith, inl, inr}
use Rattle.std.specs.List.{position, position_or_len, find}
use Rattle.std.specs.Option.{option_or}
use Rattle.std.proofs.lemmas.Bool.{cases_eq, lt-ltb, le-ltb}
use Rattle.std.proofs.lemmas.List.Sums.{position_or_len_is}
use Rattle.std.proofs.lemmas.List.Folds.{find-append}
use Rattle.mk_value.specs.Data.{Datum}
use Rattle.relations.specs.Equality.{same_row}
use Rattle.relations.specs.Positions.{numbers}
use Rattle.relations.proofs.Equal.{rows_equal, same_from_equal}
use Rattle.mapped.specs.Index.{AreKeys, row_of}
use Rattle.mapped.proofs.Moving.{keys_apart}

module _ {X : Type 0} (p : X → Bool) (xs : List X) (d : X) where
  first_is : (i : ℕ) → i < length xs → p (get_or xs i d) ≡ true → ((k : ℕ) → k < i → p (get_or xs k d) ≡ false) → position p xs ≡ Some i
  first_is i q passes fails =
      let e : position_or_len p xs ≡ i = position_or_len_is p xs i d (omega arith) fails (λ _. passes) in
      ap (λ j. cond (nat_lt j (length xs)) (Some j) None) e ∙ ap (λ b. cond b (Some i) None) (lt-ltb i (length xs) q)

  none_is : ((k : ℕ) → k < length xs → p (get_or xs k d) ≡ false) → position p xs ≡ None
  none_is fails =
      let e : position_or_len p xs ≡ length xs = position_or_len_is p xs (length xs) d (omega arith) fails (λ q. absurd (omega arith)) in
      ap (λ j. cond (nat_lt j (length xs)) (Some j) None) e ∙ ap (λ b. cond b (Some (length xs)) None) (le-ltb (length xs) (length xs) (omega arith))

-- numbers below n
module _ (p : ℕ → Bool) where
  pub find_none : (n : ℕ) → ((i : ℕ) → i < n → p i ≡ false) → find p (numbers n) ≡ None
  find_none zero fails = refl
  find_none (suc n) fails =
      find-append p (numbers n) (n ∷ []) ∙ ap (λ o. option_or o (find p (n ∷ []))) (find_none n (λ i q. fails i (omega arith)))
      ∙ ap (λ b. cond b (Some n) None) (fails n (omega arith))

  pub find_first : (n i : ℕ) → i < n → p i ≡ true → ((k : ℕ) → k < i → p k ≡ false) → find p (numbers n) ≡ Some i
  find_first zero i q passes fails = absurd (omega arith)
  find_first (suc n) i q passes fails = elim (cases_eq i n) [
    | inl same ↦
        find-append p (numbers n) (n ∷ []) ∙ ap (λ o. option_or o (find p (n ∷ []))) (find_none n (λ k r. fails k (omega arith)))
        ∙ ap (λ b. cond b (Some n) None) (ap p (sym same) ∙ passes) ∙ ap Some (sym same)
    | inr other ↦ find-append p (numbers n) (n ∷ []) ∙ ap (λ o. option_or o (find p (n ∷ []))) (find_first n i (omega arith) passes fails)
  ]

-- the row of a key
not_same : (a b : List Datum) (v : Bool) → a ≢ b → same_row a b ≡ v → same_row a b ≡ false
not_same a b true ne e = absurd (ne (rows_equal a b e))
not_same a b false ne e = e

pub key_found : (keys : List (List Datum)) (key : List Datum) (i : ℕ) → AreKeys keys → i < length keys → get_or keys i [] ≡ key → row_of key keys ≡ Some i
key_found keys key i whole q e =
    first_is (λ known. same_row known key) keys [] i q (same_from_equal (get_or keys i []) key e)
    (λ k r. not_same (get_or keys k []) key (same_row (get_or keys k []) key)
    (λ f. keys_apart keys k i whole (omega arith) q (let ne : k ≢ i = λ s. absurd (omega arith) in ne) (f ∙ sym e)) refl)

pub key_missing : (keys : List (List Datum)) (key : List Datum) → ((i : ℕ) → i < length keys → get_or keys i [] ≢ key) → row_of key keys ≡ None
key_missing keys key away =
    none_is (λ known. same_row known key) keys [] (λ k q. not_same (get_or keys k []) key (same_row (get_or keys k []) key) (away k q) refl)
