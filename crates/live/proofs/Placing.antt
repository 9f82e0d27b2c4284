-- Where a row stands among kept positions, and what is kept when a row goes or comes.
use Rattle.std.proofs.Common.{◌≡◌, ◌≢◌, ◌⊎◌, ◌==◌, ℕ, zero, suc, ◌+◌, ◌<◌, ◌≤◌, Bool, true, not, cond, nat_lt, List, [], ◌∷◌, ◌++◌, length, get_or, take, drop, Some, None, refl, ap, sym, subst, ◌∙◌, arith, inl, inr}
use Rattle.std.specs.List.{AllPairs, insert, position, position_or_len}
use Rattle.std.specs.declared.cmp.Ordering.{Ordering}
use Rattle.std.specs.declared.cmp.Ordering.TheVariants.{Less, Equal, Greater}
use Rattle.std.specs.Ordering.{nat_cmp, ordering_then, ordering_reverse}
use Rattle.std.specs.Cmp.{IsTotalOrder, nat_cmp_total}
use Rattle.std.proofs.lemmas.Bool.{cases_lt, cases_eq, ne_eqb, eq-eqb, le-ltb, lt-ltb}
use Rattle.std.proofs.lemmas.Cmp.{ranked}
use Rattle.std.proofs.lemmas.List.{take-append-drop, take_at, drop_at, length-append, length-take-le, get_or-take, get_or-drop, append_assoc, drop_more, length-drop}
use Rattle.live.specs.declared.op.WatchOp.{WatchOp}
use Rattle.live.specs.declared.op.WatchOp.TheVariants.{Range, Sort}
use Rattle.relations.specs.Criteria.{is_in_range}
use Rattle.relations.specs.Sorting.{row_cmp}
use Rattle.relations.specs.Positions.{numbers, passing, place_cmp}
use Rattle.live.specs.Placing.{without}
use Rattle.live.specs.Watching.{passes, order, positions, placed}
use Rattle.relations.proofs.Ascending.{IsIn, Ascends, AreApart, each_in, each_from_in, in_at, place_of, not_less, less_nat, sorted_up, in_sorted, in_sorted_back}
use Rattle.row_edits.proofs.Filtered.{ascends_filter}
use Rattle.live.proofs.Members.{in_numbers, numbers_in, in_filter, filter_in}
use Rattle.live.proofs.Ops.{op_total}
use Rattle.live.proofs.Picks.{ArePicked, AreOthers, ascends_joined, place_total, picked_same, others_from_middle, others_from_absent, picked_from_middle}
use Rattle.mk_value.specs.Heading.{Attribute}
use Rattle.mk_value.specs.Data.{Datum}

-- the positions of a watch are those of the rows that it has, in its order
ascends_numbers : (n : ℕ) → Ascends nat_cmp (numbers n)
ascends_numbers zero = tt
ascends_numbers (suc n) =
    ascends_joined nat_cmp (numbers n) (n ∷ []) (ascends_numbers n) (tt, tt)
    (λ x y p q. less_nat x y (let a = in_numbers n x p in elim q [ inl e ↦ omega arith | inr h ↦ absurd h ]))

then_equal : (o p : Ordering) → ordering_then o p ≡ Equal → p ≡ Equal
then_equal Less p e = cc
then_equal Equal p e = e
then_equal Greater p e = cc

pub place_equal : {X : Type 0} (cmp : X → X → Ordering) (d : X) (rows : List X) (i j : ℕ) → place_cmp cmp d rows i j ≡ Equal → i ≡ j
place_equal cmp d rows i j e = ranked i j Equal (sym (then_equal (cmp (get_or rows i d) (get_or rows j d)) (nat_cmp i j) e))

apart_from_ascends : (cmp : ℕ → ℕ → Ordering) → ((i j : ℕ) → cmp i j ≡ Equal → i ≡ j) → (xs : List ℕ) → Ascends nat_cmp xs → AreApart cmp xs
apart_from_ascends cmp exact [] up = tt
apart_from_ascends cmp exact (x ∷ xs) up = (
  each_from_in (λ y. cmp x y ≡ Equal → ⊥) xs (λ y h e. not_less nat_cmp_total x (subst (λ z. nat_cmp x z ≡ Less) (sym (exact x y e)) (each_in (λ y. nat_cmp x y ≡ Less) xs y up.0 h))),
  apart_from_ascends cmp exact xs up.1,
)

pub picked_passing : {X : Type 0} (test : X → Bool) (d : X) (rows : List X) → ArePicked test (λ a b. Equal) d rows (passing test d rows)
picked_passing test d rows =
    let here : ℕ → Bool = λ i. test (get_or rows i d) in
    record {
      ascends = ascends_filter nat_cmp here (numbers (length rows)) (ascends_numbers (length rows));
      inside = λ i h. let r = in_filter here (numbers (length rows)) i h in (in_numbers (length rows) i r.0, r.1);
      whole = λ i q t. filter_in here (numbers (length rows)) i (numbers_in (length rows) i q) t;
    }

pub picked_positions : (schema : List Attribute) (op : WatchOp) (rows : List (List Datum)) → ArePicked (passes schema op) (order schema op) [] rows (positions schema op rows)
picked_positions schema (Range criteria) rows = picked_passing (is_in_range schema criteria) [] rows
picked_positions schema (Sort keys) rows =
    let cmp = place_cmp (row_cmp schema keys) [] rows in
    record {
      ascends = sorted_up cmp (place_total (row_cmp schema keys) (op_total schema (Sort keys)) [] rows) (numbers (length rows))
          (apart_from_ascends cmp (place_equal (row_cmp schema keys) [] rows) (numbers (length rows)) (ascends_numbers (length rows)));
      inside = λ i h. (in_numbers (length rows) i (in_sorted_back cmp (numbers (length rows)) i h), refl);
      whole = λ i q t. in_sorted cmp (numbers (length rows)) i (numbers_in (length rows) i q);
    }

-- a list that ascends, by its places
pub pairs_from_ascends : (cmp : ℕ → ℕ → Ordering) (xs : List ℕ) → Ascends cmp xs → AllPairs (λ i j. cmp i j ≡ Less) xs
pairs_from_ascends cmp [] up i j d p q = absurd (omega arith)
pairs_from_ascends cmp (x ∷ xs) up zero zero d p q = absurd (omega arith)
pairs_from_ascends cmp (x ∷ xs) up zero (suc j) d p q = each_in (λ y. cmp x y ≡ Less) xs (get_or xs j d) up.0 (in_at xs j d (omega arith))
pairs_from_ascends cmp (x ∷ xs) up (suc i) zero d p q = absurd (omega arith)
pairs_from_ascends cmp (x ∷ xs) up (suc i) (suc j) d p q = pairs_from_ascends cmp xs up.1 i j d (omega arith) (omega arith)

-- the place of a number in a list
prefix_middle : (p : ℕ) (xs ys : List ℕ) → (IsIn p xs → ⊥) → position_or_len (λ k. k == p) (xs ++ p ∷ ys) ≡ length xs
prefix_middle p [] ys away = ap (λ b. cond (not b) (1 + position_or_len (λ k. k == p) ys) 0) (eq-eqb p p refl)
prefix_middle p (x ∷ xs) ys away =
    ap (λ b. cond (not b) (1 + position_or_len (λ k. k == p) (xs ++ p ∷ ys)) 0) (ne_eqb x p (λ e. away (inl e)))
    ∙ (let e = prefix_middle p xs ys (λ h. away (inr h)) in omega arith)

prefix_absent : (p : ℕ) (xs : List ℕ) → (IsIn p xs → ⊥) → position_or_len (λ k. k == p) xs ≡ length xs
prefix_absent p [] away = refl
prefix_absent p (x ∷ xs) away =
    ap (λ b. cond (not b) (1 + position_or_len (λ k. k == p) xs) 0) (ne_eqb x p (λ e. away (inl e)))
    ∙ (let e = prefix_absent p xs (λ h. away (inr h)) in omega arith)

pub position_middle : (p : ℕ) (xs ys : List ℕ) → (IsIn p xs → ⊥) → position (λ k. k == p) (xs ++ p ∷ ys) ≡ Some (length xs)
position_middle p xs ys away =
    let long = length-append xs (p ∷ ys) in
    ap (λ n. cond (nat_lt n (length (xs ++ p ∷ ys))) (Some n) None) (prefix_middle p xs ys away)
    ∙ ap (λ b. cond b (Some (length xs)) None) (lt-ltb (length xs) (length (xs ++ p ∷ ys)) (omega arith))

pub position_absent : (p : ℕ) (xs : List ℕ) → (IsIn p xs → ⊥) → position (λ k. k == p) xs ≡ None
position_absent p xs away =
    ap (λ n. cond (nat_lt n (length xs)) (Some n) None) (prefix_absent p xs away)
    ∙ ap (λ b. cond b (Some (length xs)) None) (le-ltb (length xs) (length xs) (omega arith))

-- a number stands in a list at a first place, or nowhere
pub record IsMiddle (p : ℕ) (kept : List ℕ) : Type 0 where
  pub front : List ℕ
  pub back : List ℕ
  pub is : kept ≡ front ++ p ∷ back
  pub first : IsIn p front → ⊥

pub middle_or_absent : (p : ℕ) (kept : List ℕ) → IsMiddle p kept ⊎ (IsIn p kept → ⊥)
middle_or_absent p [] = inr (λ h. h)
middle_or_absent p (x ∷ xs) = elim (cases_eq x p) [
  | inl e ↦ inl (record { front = []; back = xs; is = ap (λ y. y ∷ xs) e; first = λ h. h })
  | inr ne ↦ elim (middle_or_absent p xs) [
    | inl m ↦ inl (record { front = x ∷ m.front; back = m.back; is = ap (λ ys. x ∷ ys) m.is; first = λ h. elim h [ inl e ↦ ne e | inr g ↦ m.first g ] })
    | inr away ↦ inr (λ h. elim h [ inl e ↦ ne e | inr g ↦ away g ])
  ]
]

pub without_middle : {X : Type 0} (p : X) (xs ys : List X) → without (Some (length xs)) (xs ++ p ∷ ys) ≡ xs ++ ys
without_middle p xs ys =
    ap (λ zs. zs ++ drop (suc (length xs)) (xs ++ p ∷ ys)) (take_at xs (p ∷ ys) (length xs) refl)
    ∙ ap (λ zs. xs ++ zs) (ap (drop (suc (length xs))) (sym (append_assoc xs (p ∷ []) ys)) ∙ drop_at (xs ++ p ∷ []) ys (suc (length xs)) (let e = length-append xs (p ∷ []) in omega arith))

-- without the row at p
pub others_left : {X : Type 0} (test : X → Bool) (cmp : X → X → Ordering) → IsTotalOrder cmp → (d : X) (rows : List X) (kept : List ℕ) (p : ℕ) → ArePicked test cmp d rows kept
    → AreOthers test cmp d rows p (without (placed kept (Some p)) kept)
others_left test cmp total d rows kept p h = elim (middle_or_absent p kept) [
  | inl m ↦
      let same : without (placed kept (Some p)) kept ≡ m.front ++ m.back =
      ap (λ ks. without (position (λ k. k == p) ks) ks) m.is ∙ ap (λ o. without o (m.front ++ p ∷ m.back)) (position_middle p m.front m.back m.first) ∙ without_middle p m.front m.back in
      subst (AreOthers test cmp d rows p) (sym same) (others_from_middle test cmp total d rows p m.front m.back (subst (ArePicked test cmp d rows) m.is h))
  | inr away ↦
      subst (AreOthers test cmp d rows p) (sym (ap (λ o. without o kept) (position_absent p kept away)))
      (others_from_absent test cmp total d rows p kept h away)
]

pub others_placed : (schema : List Attribute) (op : WatchOp) (rows : List (List Datum)) (kept : List ℕ) (p : ℕ) → ArePicked (passes schema op) (order schema op) [] rows kept → AreOthers (passes schema op) (order schema op) [] rows p (without (placed kept (Some p)) kept)
others_placed schema op = others_left (passes schema op) (order schema op) (op_total schema op) []

-- what stands before a place, and what from there on
in_front : (xs : List ℕ) (n x : ℕ) → n ≤ length xs → IsIn x (take n xs) → (k : ℕ) × (k < n) × (get_or xs k 0 ≡ x)
in_front xs n x le h =
    let r = place_of (take n xs) x h in
    let long = length-take-le n xs le in
    let near : r.0 < n = omega (arith, r.1) in
    (r.0, near, sym (get_or-take n xs r.0 0 near) ∙ r.2 0)

pub in_back : (xs : List ℕ) (n x : ℕ) → n ≤ length xs → IsIn x (drop n xs) → (k : ℕ) × (n ≤ k) × (k < length xs) × (get_or xs k 0 ≡ x)
in_back xs n x le h =
    let r = place_of (drop n xs) x h in
    let long = length-drop n xs in
    let p = r.1 in
    let far : n ≤ n + r.0 = omega arith in
    let near : n + r.0 < length xs = omega arith in
    (n + r.0, far, near, sym (get_or-drop n xs r.0 0) ∙ r.2 0)

pub other_way : {X : Type 0} (cmp : X → X → Ordering) (total : IsTotalOrder cmp) (d : X) (rows : List X) (y p : ℕ) → place_cmp cmp d rows y p ≢ Less → y ≢ p → place_cmp cmp d rows p y ≡ Less
other_way cmp total d rows y p least ne = at (place_cmp cmp d rows y p) refl
  where
    at : (o : Ordering) → place_cmp cmp d rows y p ≡ o → place_cmp cmp d rows p y ≡ Less
    at Less e = absurd (least e)
    at Equal e = absurd (ne (place_equal cmp d rows y p e))
    at Greater e = (place_total cmp total d rows).antisymm p y ∙ ap ordering_reverse e

module _ (schema : List Attribute) (op : WatchOp) (rows : List (List Datum)) (kept : List ℕ) (p at : ℕ) (le : at ≤ length kept)
    (below : (k : ℕ) → k < at → place_cmp (order schema op) [] rows (get_or kept k 0) p ≡ Less)
    (above : (k : ℕ) → at ≤ k → k < length kept → place_cmp (order schema op) [] rows (get_or kept k 0) p ≢ Less) where
  pub front_less : (x : ℕ) → IsIn x (take at kept) → place_cmp (order schema op) [] rows x p ≡ Less
  front_less x h = let r = in_front kept at x le h in subst (λ y. place_cmp (order schema op) [] rows y p ≡ Less) r.2 (below r.0 r.1)

  pub front_away : IsIn p (take at kept) → ⊥
  front_away h = not_less (place_total (order schema op) (op_total schema op) [] rows) p (front_less p h)

  pub inserted : p < length rows → AreOthers (passes schema op) (order schema op) [] rows p kept → passes schema op (get_or rows p []) ≡ true → insert kept at p ≡ positions schema op rows
  inserted within others has =
      picked_same (passes schema op) (order schema op) (op_total schema op) [] rows (insert kept at p) (positions schema op rows)
      (picked_from_middle (passes schema op) (order schema op) (op_total schema op) [] rows p (take at kept) (drop at kept) within
      (subst (AreOthers (passes schema op) (order schema op) [] rows p) (sym (take-append-drop at kept)) others) has front_less
      (λ y h.
      let r = in_back kept at y le h in
      let inside = others.inside (get_or kept r.0 0) (in_at kept r.0 0 r.2) in
      subst (λ z. place_cmp (order schema op) [] rows p z ≡ Less) r.3 (other_way (order schema op) (op_total schema op) [] rows (get_or kept r.0 0) p (above r.0 r.1 r.2) inside.2)))
      (picked_positions schema op rows)

  pub inserted_place : position (λ k. k == p) (insert kept at p) ≡ Some at
  inserted_place = position_middle p (take at kept) (drop at kept) front_away ∙ ap Some (length-take-le at kept le)

  pub found_place : at < length kept → get_or kept at 0 ≡ p → position (λ k. k == p) kept ≡ Some at
  found_place q e =
      ap (position (λ k. k == p)) (sym (take-append-drop at kept) ∙ ap (λ zs. take at kept ++ zs) (drop_more kept at 0 q ∙ ap (λ z. z ∷ drop (at + 1) kept) e))
      ∙ position_middle p (take at kept) (drop (at + 1) kept) front_away ∙ ap Some (length-take-le at kept le)

  pub no_place : Ascends (place_cmp (order schema op) [] rows) kept → (at < length kept → get_or kept at 0 ≢ p) → position (λ k. k == p) kept ≡ None
  no_place up other = position_absent p kept (λ h.
      let r = place_of kept p h in
      let q = r.1 in
      elim (cases_lt r.0 at) [
        | inl near ↦ not_less (place_total (order schema op) (op_total schema op) [] rows) p (subst (λ y. place_cmp (order schema op) [] rows y p ≡ Less) (r.2 0) (below r.0 near))
        | inr far ↦ elim (cases_lt at r.0) [
          | inl past ↦ above at (omega arith) (omega arith) (ap (place_cmp (order schema op) [] rows (get_or kept at 0)) (sym (r.2 0)) ∙ pairs_from_ascends (place_cmp (order schema op) [] rows) kept up at r.0 0 past q)
          | inr here ↦ other (omega arith) (ap (λ k. get_or kept k 0) (let same : at ≡ r.0 = omega arith in same) ∙ r.2 0)
        ]
      ])
