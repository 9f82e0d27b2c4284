-- The first of a list that passes a test.
use Rattle.std.proofs.Common.{◌≡◌, ℕ, zero, suc, ◌+◌, ◌<◌, ◌≤◌, ◌||◌, Bool, true, false, not, cond, ltb, List, [], ◌∷◌, length, get_or, map, position, Some, None, refl, ap, ◌∙◌, arith}
use Rattle.std.specs.Prelude.{find, remove}
use Rattle.std.specs.List.{All, list_any, position_or_len}
use Rattle.std.specs.Option.{option_map}
use Rattle.std.proofs.lemmas.List.Folds.{list_any_at}
use Rattle.std.proofs.lemmas.List.Sums.{prefix_len_passes}
use Rattle.std.proofs.lemmas.List.Quantifiers.{position-Some}
use Rattle.std.proofs.lemmas.Bool.Decides.{nat_tests}

-- the first that passes stands at a place
pub record IsFirstAt {X : Type 0} (p : X → Bool) (xs : List X) (at : ℕ) : Type 0 where
  pub within : at < length xs
  pub here : (d : X) → p (get_or xs at d) ≡ true
  pub before : (d : X) (k : ℕ) → k < at → p (get_or xs k d) ≡ false

pub first_at : {X : Type 0} (p : X → Bool) (xs : List X) (at : ℕ) (d : X) → position p xs ≡ Some at → IsFirstAt p xs at
first_at p xs at d e = record {
  within = (position-Some p xs at d e).0;
  here = λ x. (position-Some p xs at x e).1;
  before = λ x k q. (position-Some p xs at x e).2 k q;
}

no_place : {X : Type 0} (n : ℕ) (xs : List X) (b : Bool) → ltb n (length xs) ≡ b → cond b (Some n) None ≡ None → length xs ≤ n
no_place n xs true e h = absurd (let f : Some n ≡ None = h in cc)
no_place n xs false e h = grind (arith, nat_tests)

not_true : (b : Bool) → not b ≡ true → b ≡ false
not_true true e = absurd (let f : false ≡ true = e in cc)
not_true false e = refl

-- none passes
pub none_at : {X : Type 0} (p : X → Bool) (xs : List X) → position p xs ≡ None → All (λ x. p x ≡ false) xs
none_at p xs e k d q =
    let n = position_or_len p xs in
    let long = no_place n xs (ltb n (length xs)) refl e in
    not_true (p (get_or xs k d)) (prefix_len_passes (λ x. not (p x)) xs k d (omega arith))

module _ {X : Type 0} (p : X → Bool) where
  pub later : (x : X) (xs : List X) (at : ℕ) → IsFirstAt p (x ∷ xs) (suc at) → IsFirstAt p xs at
  later x xs at h =
      let within = h.within in
      record { within = omega arith; here = h.here; before = λ d k q. h.before d (suc k) (omega arith) }

  pub find_first : (xs : List X) (at : ℕ) (d : X) → IsFirstAt p xs at → find p xs ≡ Some (get_or xs at d)
  find_first [] at d h = absurd (let within = h.within in omega arith)
  find_first (x ∷ xs) zero d h = ap (λ b. cond b (Some x) (find p xs)) (h.here d)
  find_first (x ∷ xs) (suc at) d h = ap (λ b. cond b (Some x) (find p xs)) (h.before d 0 (omega arith)) ∙ find_first xs at d (later x xs at h)

  pub any_first : (xs : List X) (at : ℕ) (d : X) → IsFirstAt p xs at → list_any p xs ≡ true
  any_first xs at d h = list_any_at p xs at d h.within (h.here d)

  pub find_none : (xs : List X) → All (λ x. p x ≡ false) xs → find p xs ≡ None
  find_none [] h = refl
  find_none (x ∷ xs) h = ap (λ b. cond b (Some x) (find p xs)) (h 0 x (omega arith)) ∙ find_none xs (λ k d q. h (suc k) d (omega arith))

  pub find_map : {Y : Type 0} (f : Y → X) (ys : List Y) → find p (map f ys) ≡ option_map f (find (λ y. p (f y)) ys)
  find_map f [] = refl
  find_map f (y ∷ ys) = at (p (f y)) (find_map f ys)
    where
      at : (b : Bool) → find p (map f ys) ≡ option_map f (find (λ y. p (f y)) ys) → cond b (Some (f y)) (find p (map f ys)) ≡ option_map f (cond b (Some y) (find (λ y. p (f y)) ys))
      at true h = refl
      at false h = h

  pub any_map : {Y : Type 0} (f : Y → X) (ys : List Y) → list_any p (map f ys) ≡ list_any (λ y. p (f y)) ys
  any_map f [] = refl
  any_map f (y ∷ ys) = ap (λ b. p (f y) || b) (any_map f ys)

pub map_remove : {X Y : Type 0} (f : X → Y) (xs : List X) (i : ℕ) → map f (remove xs i) ≡ remove (map f xs) i
map_remove f [] zero = refl
map_remove f [] (suc i) = refl
map_remove f (x ∷ xs) zero = refl
map_remove f (x ∷ xs) (suc i) = ap (λ ys. f x ∷ ys) (map_remove f xs i)

within_cases : (b : Bool) (n m : ℕ) (a : Bool) → (a ≡ true → n < m) → (b || a) ≡ true → cond (not b) (1 + n) 0 < suc m
within_cases true n m a rest h = omega arith
within_cases false n m a rest h = let p = rest h in omega arith

some_below : (n m : ℕ) → n < m → cond (ltb n m) (Some n) None ≡ Some n
some_below n m p = grind (arith, nat_tests)

-- where one passes, the first is there
pub first_within : {X : Type 0} (p : X → Bool) (xs : List X) → list_any p xs ≡ true → position_or_len p xs < length xs
first_within p [] h = cc
first_within p (x ∷ xs) h = within_cases (p x) (position_or_len p xs) (length xs) (list_any p xs) (first_within p xs) h

pub position_some : {X : Type 0} (p : X → Bool) (xs : List X) → list_any p xs ≡ true → position p xs ≡ Some (position_or_len p xs)
position_some p xs h = let within = first_within p xs h in some_below (position_or_len p xs) (length xs) within
