-- Lists of numbers without duplicates, and sorted lists that have none.
use Rattle.std.proofs.Common.{◌≡◌, ℕ, suc, ◌<◌, ◌≤◌, Bool, true, false, cond, eqb, List, [], ◌∷◌, length, get_or, map, sum_by, IsPermutation, refl, ap, sym, subst, ◌∙◌, inl, inr, arith}
use Rattle.std.specs.List.{AllByRecursion as Each}
use Rattle.std.specs.List.Sorted.{IsSorted}
use Rattle.std.specs.declared.cmp.Ordering.{Ordering}
use Rattle.std.specs.declared.cmp.Ordering.TheVariants.{Less, Equal}
use Rattle.std.specs.Ordering.{is_lt}
use Rattle.std.specs.Cmp.{IsTotalOrder}
use Rattle.std.proofs.lemmas.Bool.{false≢true}
use Rattle.std.proofs.lemmas.List.Sums.{sum_by-cons}
use Rattle.std.proofs.lemmas.List.Sorted.{sum_by-IsPermutation, sorted_far, ranks_by}
use Rattle.relations.proofs.Ascending.{IsIn, each_in, each_from_in, place_of, only_less, Ascends}
use Rattle.grouping.proofs.Ascending.{in_map, reverse_greater}

abbrev pub AreDistinct : List ℕ → Type 0
AreDistinct [] = Unit {0}
AreDistinct (x ∷ xs) = Each (λ y. y ≡ x → ⊥) xs × AreDistinct xs

abbrev one_at : ℕ → ℕ → ℕ
one_at i x = cond (eqb x i) 1 0

abbrev pub times : ℕ → List ℕ → ℕ
times i xs = sum_by (one_at i) xs

one_yes : (i x : ℕ) → x ≡ i → one_at i x ≡ 1
one_yes i x e = grind arith

one_no : (i x : ℕ) → (x ≡ i → ⊥) → one_at i x ≡ 0
one_no i x e = grind arith

times_none : (i : ℕ) (xs : List ℕ) → Each (λ y. y ≡ i → ⊥) xs → times i xs ≡ 0
times_none i [] none = refl
times_none i (x ∷ xs) none = let c = sum_by-cons (one_at i) x xs in let f = one_no i x none.0 in let g = times_none i xs none.1 in omega arith

times_in : (i : ℕ) (xs : List ℕ) → IsIn i xs → 1 ≤ times i xs
times_in i [] h = absurd h
times_in i (x ∷ xs) (inl e) = let c = sum_by-cons (one_at i) x xs in let f = one_yes i x e in omega arith
times_in i (x ∷ xs) (inr h) = let c = sum_by-cons (one_at i) x xs in let g = times_in i xs h in omega arith

times_few : (i : ℕ) (xs : List ℕ) → AreDistinct xs → times i xs ≤ 1
times_few i [] distinct = omega arith
times_few i (x ∷ xs) distinct = few (eqb x i) (times_few i xs distinct.1) refl
  where
    few : (b : Bool) → times i xs ≤ 1 → eqb x i ≡ b → times i (x ∷ xs) ≤ 1
    few true rest e =
        let same : x ≡ i = grind arith in
        let c = sum_by-cons (one_at i) x xs in
        let f = one_yes i x same in
        let g = times_none i xs (subst (λ z. Each (λ y. y ≡ z → ⊥) xs) same distinct.0) in
        omega arith
    few false rest e =
        let c = sum_by-cons (one_at i) x xs in
        let f : one_at i x ≡ 0 = ap (λ b. cond b 1 0) e in
        omega arith

distinct_from_few : (xs : List ℕ) → ((i : ℕ) → times i xs ≤ 1) → AreDistinct xs
distinct_from_few [] few = tt
distinct_from_few (x ∷ xs) few = (
  each_from_in (λ y. y ≡ x → ⊥) xs (λ y h e. let c = sum_by-cons (one_at x) x xs in
      let f = one_yes x x refl in
      let g = times_in x xs (subst (λ z. IsIn z xs) e h) in
      let most = few x in
      absurd (omega arith)),
  distinct_from_few xs (λ i. let c = sum_by-cons (one_at i) x xs in let most = few i in omega arith),
)

pub distinct_permutation : (xs ys : List ℕ) → AreDistinct xs → IsPermutation xs ys → AreDistinct ys
distinct_permutation xs ys distinct moved =
    distinct_from_few ys (λ i. let e = sum_by-IsPermutation (one_at i) xs ys moved in let f = times_few i xs distinct in omega arith)

-- no element is less than an earlier one
abbrev IsFar : {X : Type 0} → (X → X → Ordering) → List X → Type 0
IsFar {X} cmp xs = (i j : ℕ) (d : X) → i ≤ j → j < length xs → is_lt (cmp (get_or xs j d) (get_or xs i d)) ≡ false

far_ascends : {X : Type 0} (cmp : X → X → Ordering) → IsTotalOrder cmp → (number : X → ℕ) → ((x y : X) → cmp x y ≡ Equal → number x ≡ number y) → (xs : List X) → IsFar cmp xs → AreDistinct (map number xs) → Ascends cmp xs
far_ascends cmp total number ties [] far distinct = tt
far_ascends cmp total number ties (x ∷ xs) far distinct = (
  each_from_in (λ y. cmp x y ≡ Less) xs (λ y h. only_less (cmp x y)
      (λ e. each_in (λ n. n ≡ number x → ⊥) (map number xs) (number y) distinct.0 (in_map number xs y h) (sym (ties x y e)))
      (λ e. let r = place_of xs y h in
      let no : is_lt (cmp y x) ≡ false = subst (λ z. is_lt (cmp z x) ≡ false) (r.2 x) (far 0 (suc r.0) x (omega arith) (let p = r.1 in omega arith)) in
      false≢true (sym no ∙ ap is_lt (total.antisymm y x ∙ reverse_greater (cmp x y) e)))),
  far_ascends cmp total number ties xs (λ i j d p q. far (suc i) (suc j) d (omega arith) (omega arith)) distinct.1,
)

-- a sorted list of elements with distinct numbers ascends, where elements tie only if they have one number
pub sorted_ascends : {X : Type 0} (cmp : X → X → Ordering) → IsTotalOrder cmp → (number : X → ℕ) → ((x y : X) → cmp x y ≡ Equal → number x ≡ number y) → (xs : List X) → IsSorted cmp xs → AreDistinct (map number xs) → Ascends cmp xs
sorted_ascends {X} cmp total number ties xs sorted distinct =
    far_ascends cmp total number ties xs (sorted_far (λ x y. is_lt (cmp x y)) (ranks_by total {X = X} (λ x. x)) xs sorted) distinct
