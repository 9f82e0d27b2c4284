-- Positions sorted by the keys that stand there, and keys that stood before.
use Rattle.std.proofs.Common.{◌≡◌, ◌≢◌, ℕ, ◌+◌, ◌-◌, ◌<◌, ◌≤◌, min, Bool, true, false, eqb, List, [], length, get_or, take, Option, Some, None, IsPermutation, refl, ap, sym, subst, ◌∙◌, arith, inl, inr}
use Rattle.std.specs.List.{AllPairs}
use Rattle.std.specs.List.Sorted.{IsSortedBy}
use Rattle.std.specs.declared.cmp.Ordering.{Ordering}
use Rattle.std.specs.declared.cmp.Ordering.TheVariants.{Less, Equal, Greater}
use Rattle.std.specs.Ordering.{is_lt, is_eq, nat_cmp, ordering_then, ordering_reverse}
use Rattle.std.specs.Cmp.{IsTotalOrder, IsStrictWeakOrder, nat_cmp_total, then_total, on_total, nat_eq_equiv}
use Rattle.std.proofs.lemmas.Bool.{cases_lt, cases_eq, false≢true}
use Rattle.std.proofs.lemmas.Bool.Decides.{Decides-eqb}
use Rattle.std.proofs.lemmas.Cmp.{ranked, tied_itself}
use Rattle.std.proofs.lemmas.List.{length-take-le, get_or-take, get_or_default}
use Rattle.std.proofs.lemmas.List.Folds.{list_any_at, Any-from_list_any}
use Rattle.std.proofs.lemmas.List.Sorted.{ranks_by, sorted_far, Contains-permutation, All-permutation}
use Rattle.std.proofs.lemmas.Map.Made.{AllPairs-from_IsDistinct, IsDistinct-from_AllPairs}
use Rattle.std.proofs.lemmas.Map.Keys.{IsDistinct-IsPermutation}
use Rattle.mk_value.specs.Data.{Datum}
use Rattle.relations.specs.Equality.{same_row}
use Rattle.relations.specs.Positions.{numbers, place_cmp}
use Rattle.relations.specs.WholeOrder.{whole_row_cmp}
use Rattle.relations.specs.OrderLaws.{whole_row_cmp_total, whole_row_ties}
use Rattle.relations.proofs.Ascending.{place_of, in_from_contains, not_less, only_less}
use Rattle.relations.proofs.Equal.{rows_equal, same_from_equal}
use Rattle.relations.proofs.Numbers.{numbers_at, numbers_below, length-numbers}
use Rattle.mapped.specs.Order.{IsSortOf, IsOrderOf, least}
use Rattle.mapped.specs.Refusals.{is_repeated, first_repeated}
use Rattle.mapped.proofs.Finding.{find_none, find_first}

-- which of two orderings decides
then_less : (o p : Ordering) → ordering_then o p ≢ Equal → ordering_then o p ≢ Greater → ordering_then o p ≡ Less
then_less Less p f g = refl
then_less Equal Less f g = refl
then_less Equal Equal f g = absurd (f refl)
then_less Equal Greater f g = absurd (g refl)
then_less Greater p f g = absurd (g refl)

then_equal : (o p : Ordering) → ordering_then o p ≡ Equal → p ≡ Equal
then_equal Less p e = cc
then_equal Equal p e = e
then_equal Greater p e = cc

first_up_to : (o p : Ordering) → ordering_then o p ≡ Less → o ≢ Greater
first_up_to Less p e f = cc
first_up_to Equal p e f = cc
first_up_to Greater p e f = cc

back : (o p : Ordering) → o ≡ ordering_reverse p → o ≡ Greater → is_lt p ≡ true
back o Less e f = refl
back o Equal e f = cc
back o Greater e f = cc

numbers_apart : (n : ℕ) → AllPairs (λ x y. x ≢ y) (numbers n)
numbers_apart n i j d p q e =
    let long = length-numbers n in
    let one = numbers_at n i d (omega arith) in
    let two = numbers_at n j d (omega arith) in
    omega arith

abbrev pub at_cmp : List (List Datum) → ℕ → ℕ → Ordering
at_cmp keys = place_cmp whole_row_cmp [] keys

at_total : (keys : List (List Datum)) → IsTotalOrder (at_cmp keys)
at_total keys = then_total (on_total (λ i. get_or keys i []) whole_row_cmp_total) nat_cmp_total

pub at_ranks : (keys : List (List Datum)) (d : List Datum) → IsStrictWeakOrder (λ i j. is_lt (place_cmp whole_row_cmp d keys i j))
at_ranks keys d = ranks_by (then_total (on_total (λ i. get_or keys i d) whole_row_cmp_total) nat_cmp_total) (λ (i : ℕ). i)

-- a sort of the numbers below the number of keys
pub sorted_is : (keys : List (List Datum)) (order : List ℕ) → IsPermutation (numbers (length keys)) order → IsSortedBy (λ i j. is_lt (at_cmp keys i j)) order → IsSortOf keys order
sorted_is keys order moved up =
    let n : ℕ = length keys in
    let apart : AllPairs (λ x y. x ≢ y) order =
    AllPairs-from_IsDistinct Decides-eqb order (IsDistinct-IsPermutation eqb nat_eq_equiv.symm (numbers n) order moved (IsDistinct-from_AllPairs Decides-eqb (numbers n) (numbers_apart n))) in
    record {
      within = All-permutation (λ i. i < n) (numbers n) order moved (numbers_below n);
      complete = λ i p.
          let long = length-numbers n in
          let there : i < length (numbers n) = omega arith in
          Contains-permutation (numbers n) order i moved (i, there, numbers_at n i i p);
      ascends = λ i j d p q.
          let one = get_or order i d in
          let two = get_or order j d in
          let lt = sorted_far (λ i j. is_lt (at_cmp keys i j)) (at_ranks keys []) order up i j d (omega arith) q in
          then_less (whole_row_cmp (get_or keys one []) (get_or keys two [])) (nat_cmp one two)
          (λ tie. apart i j d p q (ranked one two Equal (sym (then_equal (whole_row_cmp (get_or keys one []) (get_or keys two [])) (nat_cmp one two) tie))))
          (λ over. false≢true (sym lt ∙ back (at_cmp keys one two) (at_cmp keys two one) ((at_total keys).antisymm one two) over));
    }

-- a key that stood before
pub repeated_from : (keys : List (List Datum)) (i j : ℕ) → i < j → j < length keys → get_or keys i [] ≡ get_or keys j [] → is_repeated keys j ≡ true
repeated_from keys i j p q e =
    let long = length-take-le j keys (omega arith) in
    let there : i < length (take j keys) = omega arith in
    list_any_at (λ known. same_row known (get_or keys j [])) (take j keys) i [] there
    (same_from_equal (get_or (take j keys) i []) (get_or keys j []) (get_or-take j keys i [] p ∙ e))

stood_before : (keys : List (List Datum)) (j : ℕ) → j < length keys → is_repeated keys j ≡ true → (i : ℕ) × (i < j) × (get_or keys i [] ≡ get_or keys j [])
stood_before keys j q e =
    let r = Any-from_list_any (λ known. same_row known (get_or keys j [])) (take j keys) e in
    let long = length-take-le j keys (omega arith) in
    let i : ℕ = r.0 in
    let inside : i < length (take j keys) = r.2 in
    let near : i < j = omega arith in
    (i, near, sym (get_or-take j keys i [] near) ∙ get_or_default (take j keys) i [] r.1 inside ∙ r.3 ∙ rows_equal r.1 (get_or keys j []) r.4)

-- two places of the order that follow each other have one key
abbrev pub IsTied : List (List Datum) → List ℕ → ℕ → Type 0
IsTied keys order k = get_or keys (get_or order (k - 1) 0) [] ≡ get_or keys (get_or order k 0) []

-- the least position of those that follow one of the same key, among the places below a number
abbrev pub IsLeastTied : List (List Datum) → List ℕ → ℕ → Option ℕ → Type 0
IsLeastTied keys order n None = (k : ℕ) → 0 < k → k < n → IsTied keys order k → ⊥
IsLeastTied keys order n (Some first) =
    ((k : ℕ) × (0 < k) × (k < n) × IsTied keys order k × (get_or order k 0 ≡ first)) × ((k : ℕ) → 0 < k → k < n → IsTied keys order k → first ≤ get_or order k 0)

not_above : (o : Ordering) → o ≢ Greater → ordering_reverse o ≢ Greater → o ≡ Equal
not_above Less f g = absurd (g refl)
not_above Equal f g = refl
not_above Greater f g = absurd (f refl)

module _ (keys : List (List Datum)) (order : List ℕ) (h : IsSortOf keys order) where
  -- of two places that follow each other and tie, the later is that of a key that stood before
  tied_repeats : (k : ℕ) → 0 < k → k < length order → IsTied keys order k → is_repeated keys (get_or order k 0) ≡ true
  tied_repeats k p q tie =
      let i = get_or order (k - 1) 0 in
      let j = get_or order k 0 in
      let less = h.ascends (k - 1) k 0 (omega arith) q in
      let even : whole_row_cmp (get_or keys i []) (get_or keys j []) ≡ Equal = ap (whole_row_cmp (get_or keys i [])) (sym tie) ∙ tied_itself whole_row_cmp_total (get_or keys i []) in
      let below : i < j = ranked i j Less (sym (sym (ap (λ o. ordering_then o (nat_cmp i j)) even) ∙ less)) in
      repeated_from keys i j below (h.within k 0 q) tie

  -- a key that stood before follows one that is the same
  repeat_tied : (j : ℕ) → j < length keys → is_repeated keys j ≡ true → (k : ℕ) × (0 < k) × (k < length order) × IsTied keys order k × (get_or order k 0 ≡ j)
  repeat_tied j q e =
      let s = stood_before keys j q e in
      let i : ℕ = s.0 in
      let near : i < j = s.1 in
      let same : get_or keys i [] ≡ get_or keys j [] = s.2 in
      let one = place_of order i (in_from_contains order i (h.complete i (omega arith))) in
      let two = place_of order j (in_from_contains order j (h.complete j q)) in
      let a : ℕ = one.0 in
      let b : ℕ = two.0 in
      let at_a : get_or order a 0 ≡ i = one.2 0 in
      let at_b : get_or order b 0 ≡ j = two.2 0 in
      let in_a : a < length order = one.1 in
      let in_b : b < length order = two.1 in
      let tie : whole_row_cmp (get_or keys j []) (get_or keys i []) ≡ Equal = ap (whole_row_cmp (get_or keys j [])) same ∙ tied_itself whole_row_cmp_total (get_or keys j []) in
      let before : a < b = elim (cases_lt a b) [
        | inl lt ↦ lt
        | inr ge ↦ elim (cases_eq a b) [
          | inl eq ↦ absurd (let f : i ≡ j = sym at_a ∙ ap (λ n. get_or order n 0) eq ∙ at_b in omega arith)
          | inr ne ↦
              let far : b < a = omega arith in
              let less : at_cmp keys j i ≡ Less = ap (λ n. at_cmp keys n i) (sym at_b) ∙ ap (at_cmp keys (get_or order b 0)) (sym at_a) ∙ h.ascends b a 0 far in_a in
              let wrong : j < i = ranked j i Less (sym (sym (ap (λ o. ordering_then o (nat_cmp j i)) tie) ∙ less)) in
              absurd (omega arith)
        ]
      ] in
      let some : 0 < b = omega arith in
      let x = get_or order (b - 1) 0 in
      let level : get_or keys x [] ≡ get_or keys j [] = elim (cases_eq a (b - 1)) [
        | inl eq ↦ ap (λ n. get_or keys n []) (ap (λ n. get_or order n 0) (sym eq) ∙ at_a) ∙ same
        | inr ne ↦
            let low : at_cmp keys i x ≡ Less = ap (λ n. at_cmp keys n x) (sym at_a) ∙ h.ascends a (b - 1) 0 (omega arith) (omega arith) in
            let high : at_cmp keys x j ≡ Less = ap (at_cmp keys x) (sym at_b) ∙ h.ascends (b - 1) b 0 (omega arith) in_b in
            let up : whole_row_cmp (get_or keys x []) (get_or keys j []) ≢ Greater = first_up_to (whole_row_cmp (get_or keys x []) (get_or keys j [])) (nat_cmp x j) high in
            let down : whole_row_cmp (get_or keys i []) (get_or keys x []) ≢ Greater = first_up_to (whole_row_cmp (get_or keys i []) (get_or keys x [])) (nat_cmp i x) low in
            let turned : ordering_reverse (whole_row_cmp (get_or keys x []) (get_or keys j [])) ≡ whole_row_cmp (get_or keys i []) (get_or keys x []) =
            sym (whole_row_cmp_total.antisymm (get_or keys j []) (get_or keys x [])) ∙ ap (λ z. whole_row_cmp z (get_or keys x [])) (sym same) in
            whole_row_ties (get_or keys x []) (get_or keys j []) (not_above (whole_row_cmp (get_or keys x []) (get_or keys j [])) up (λ g. down (sym turned ∙ g)))
      ] in
      (b, some, in_b, level ∙ ap (λ n. get_or keys n []) (sym at_b), at_b)

  never : (j : ℕ) (v : Bool) → is_repeated keys j ≡ v → (v ≡ true → ⊥) → is_repeated keys j ≡ false
  never j true e f = absurd (f refl)
  never j false e f = e

  -- the first key that stood before is the least of those that follow one of the same key
  pub first_repeated_is : (first : Option ℕ) → IsLeastTied keys order (length order) first → first ≡ first_repeated keys
  first_repeated_is None none =
      sym (find_none (is_repeated keys) (length keys) (λ j q. never j (is_repeated keys j) refl (λ e. let r = repeat_tied j q e in none r.0 r.1 r.2 r.3)))
  first_repeated_is (Some first) some =
      let w = some.0 in
      let at : get_or order w.0 0 ≡ first = w.4 in
      let here : is_repeated keys first ≡ true = ap (is_repeated keys) (sym at) ∙ tied_repeats w.0 w.1 w.2 w.3 in
      let inside = h.within w.0 0 w.2 in
      let there : first < length keys = omega arith in
      sym (find_first (is_repeated keys) (length keys) first there here
      (λ j q. never j (is_repeated keys j) refl (λ e. let r = repeat_tied j (omega arith) e in let least = some.1 r.0 r.1 r.2 r.3 in let is = r.4 in absurd (omega arith))))

  -- where none stood before, all keys differ, and the order is by the keys alone
  module _ (none : IsLeastTied keys order (length order) None) where
    differ : (i j : ℕ) → i < j → j < length keys → get_or keys i [] ≢ get_or keys j []
    differ i j p q e = let r = repeat_tied j q (repeated_from keys i j p q e) in none r.0 r.1 r.2 r.3

    pub all_distinct : AllPairs (λ a b. a ≢ b) keys
    all_distinct i j d p q e =
        differ i j p q (get_or_default keys i [] d (omega arith) ∙ e ∙ get_or_default keys j d [] q)

    apart : (i j : ℕ) → i < length keys → j < length keys → i ≢ j → get_or keys i [] ≢ get_or keys j []
    apart i j p q ne e = elim (cases_lt i j) [
      | inl lt ↦ differ i j lt q e
      | inr ge ↦ differ j i (omega arith) p (sym e)
    ]

    pub ordered_is : IsOrderOf keys order
    ordered_is = record {
      ordered = record {
        within = h.within;
        ascends = λ i j d p q.
            let one = get_or order i d in
            let two = get_or order j d in
            let less = h.ascends i j d p q in
            let other : one ≢ two = λ e. not_less (at_total keys) two (ap (λ n. at_cmp keys n two) (sym e) ∙ less) in
            only_less (whole_row_cmp (get_or keys one []) (get_or keys two []))
            (λ tie. apart one two (h.within i d (omega arith)) (h.within j d q) other (whole_row_ties (get_or keys one []) (get_or keys two []) tie))
            (first_up_to (whole_row_cmp (get_or keys one []) (get_or keys two [])) (nat_cmp one two) less);
      };
      complete = h.complete;
    }

-- one place more
module _ (keys : List (List Datum)) (order : List ℕ) where
  pub least_tied : (n : ℕ) (first : Option ℕ) → 0 < n → IsLeastTied keys order n first → IsTied keys order n → IsLeastTied keys order (n + 1) (Some (least first (get_or order n 0)))
  least_tied n None some h tie = (
    (n, some, (let p : n < n + 1 = omega arith in p), tie, refl),
    λ k p q e. elim (cases_eq k n) [
      | inl same ↦ (let f = ap (λ j. get_or order j 0) same in omega arith)
      | inr other ↦ absurd (h k p (omega arith) e)
    ],
  )
  least_tied n (Some first) some h tie =
      let at : ℕ = get_or order n 0 in
      let w = h.0 in
      elim (cases_lt first at) [
        | inl lt ↦ (
          (w.0, w.1, (let a = w.2 in let p : w.0 < n + 1 = omega arith in p), w.3, w.4 ∙ (let e : first ≡ min first at = grind arith in e)),
          λ k p q e. elim (cases_eq k n) [
            | inl same ↦ (let f = ap (λ j. get_or order j 0) same in let m : min first at ≡ first = grind arith in omega arith)
            | inr other ↦ (let f = h.1 k p (omega arith) e in let m : min first at ≡ first = grind arith in omega arith)
          ],
        )
        | inr ge ↦ (
          (n, some, (let p : n < n + 1 = omega arith in p), tie, (let e : at ≡ min first at = grind arith in e)),
          λ k p q e. elim (cases_eq k n) [
            | inl same ↦ (let f = ap (λ j. get_or order j 0) same in let m : min first at ≡ at = grind arith in omega arith)
            | inr other ↦ (let f = h.1 k p (omega arith) e in let m : min first at ≡ at = grind arith in omega arith)
          ],
        )
      ]

  pub least_apart : (n : ℕ) (first : Option ℕ) → IsLeastTied keys order n first → (IsTied keys order n → ⊥) → IsLeastTied keys order (n + 1) first
  least_apart n None h other = λ k p q e. elim (cases_eq k n) [
    | inl same ↦ other (subst (IsTied keys order) same e)
    | inr ne ↦ h k p (omega arith) e
  ]
  least_apart n (Some first) h other =
      let w = h.0 in (
        (w.0, w.1, (let a = w.2 in let p : w.0 < n + 1 = omega arith in p), w.3, w.4),
        λ k p q e. elim (cases_eq k n) [
          | inl same ↦ absurd (other (subst (IsTied keys order) same e))
          | inr ne ↦ h.1 k p (omega arith) e
        ],
      )

  -- all places
  pub least_end : (n : ℕ) (first : Option ℕ) → length order ≤ n → (length order < n → n ≡ 1) → IsLeastTied keys order n first → IsLeastTied keys order (length order) first
  least_end n None all last h = λ k p q e. h k p (omega arith) e
  least_end n (Some first) all last h = elim (cases_lt (length order) n) [
    | inl short ↦ absurd (let w = h.0 in let a = w.1 in let b = w.2 in let c = last short in omega arith)
    | inr even ↦ subst (λ m. IsLeastTied keys order m (Some first)) (let e : n ≡ length order = omega arith in e) h
  ]

pub tied_from : (a b : List Datum) → is_eq (whole_row_cmp a b) ≡ true → a ≡ b
tied_from a b e = whole_row_ties a b (equal_from (whole_row_cmp a b) e)
  where
    equal_from : (o : Ordering) → is_eq o ≡ true → o ≡ Equal
    equal_from Less f = cc
    equal_from Equal f = refl
    equal_from Greater f = cc

pub apart_from : (a b : List Datum) → is_eq (whole_row_cmp a b) ≡ false → a ≢ b
apart_from a b e same = false≢true (sym e ∙ ap is_eq (ap (whole_row_cmp a) (sym same) ∙ tied_itself whole_row_cmp_total a))
