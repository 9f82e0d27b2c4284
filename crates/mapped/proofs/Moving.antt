-- What a key that comes, goes or changes does to the positions of the keys in their order.
use Rattle.std.proofs.Common.{◌≡◌, ◌≢◌, ℕ, suc, ◌+◌, ◌-◌, ◌<◌, ◌≤◌, List, [], ◌∷◌, ◌++◌, length, get_or, set, map, take, drop, refl, ap, sym, subst, ◌∙◌, arith, inl, inr}
use Rattle.std.specs.List.{All, insert, remove}
use Rattle.std.specs.declared.cmp.Ordering.{Ordering}
use Rattle.std.specs.declared.cmp.Ordering.TheVariants.{Less, Equal, Greater}
use Rattle.std.specs.Ordering.{ordering_reverse}
use Rattle.std.specs.Cmp.{IsTotalOrder, on_total}
use Rattle.std.proofs.lemmas.Bool.{cases_lt, cases_eq}
use Rattle.std.proofs.lemmas.Bool.Decides.{Decides-eqb, nat_tests}
use Rattle.std.proofs.lemmas.List.{take-append-drop, drop_more, get_or-set_other, length-set}
use Rattle.std.proofs.lemmas.List.Edits.{length-insert, length-remove, get_or-insert_below, get_or-insert_above, get_or-remove_below, get_or-remove_above}
use Rattle.std.proofs.lemmas.List.Quantifiers.{all_pairs_remove}
use Rattle.std.proofs.lemmas.Cmp.{tied_itself}
use Rattle.std.proofs.lemmas.Map.Made.{IsDistinct-from_AllPairs}
use Rattle.std.proofs.lemmas.Map.Steps.{length-le_from_distinct_below}
use Rattle.std.proofs.lemmas.Map.Views.{Contains-from_any}
use Rattle.mk_value.specs.Data.{Datum}
use Rattle.relations.specs.WholeOrder.{whole_row_cmp}
use Rattle.relations.specs.OrderLaws.{whole_row_cmp_total, whole_row_ties}
use Rattle.relations.proofs.Ascending.{IsIn, Ascends, in_from_contains, contains_from_in, ascends_from_pairs, place_of, in_at, not_less}
use Rattle.mapped.specs.Index.{AreKeys}
use Rattle.mapped.specs.Order.{key_at_cmp, AreOrdered, IsOrderOf, IsOrderWithout, IsIndexOf, closed, opened}
use Rattle.mapped.proofs.Lists.{in_map, map_in, in_middle, middle_in, all_from_in, all_in, pairs_from_ascends, ascends_map, ascends_out, ascends_in, middle_apart, in_front, in_back}

-- positions moved down and up
closed_opened : (p k : ℕ) → closed p (opened p k) ≡ k
closed_opened p k = grind (arith, nat_tests)

opened_closed : (p k : ℕ) → k ≢ p → opened p (closed p k) ≡ k
opened_closed p k h = grind (arith, nat_tests)

opened_apart : (p k : ℕ) → opened p k ≢ p
opened_apart p k = grind (arith, nat_tests)

closed_below : (p k : ℕ) → k < p → closed p k ≡ k
closed_below p k h = grind (arith, nat_tests)

closed_above : (p k : ℕ) → p < k → closed p k ≡ k - 1
closed_above p k h = grind (arith, nat_tests)

opened_below : (p k : ℕ) → k < p → opened p k ≡ k
opened_below p k h = grind (arith, nat_tests)

opened_above : (p k : ℕ) → p ≤ k → opened p k ≡ k + 1
opened_above p k h = grind (arith, nat_tests)

pub at_total : (keys : List (List Datum)) → IsTotalOrder (key_at_cmp keys)
at_total keys = on_total (λ i. get_or keys i []) whole_row_cmp_total

-- positions that keep their keys keep their order
pub at_same : (old new : List (List Datum)) (i j k l : ℕ) → get_or new k [] ≡ get_or old i [] → get_or new l [] ≡ get_or old j [] → key_at_cmp old i j ≡ Less → key_at_cmp new k l ≡ Less
at_same old new i j k l e f less = ap (λ x. whole_row_cmp x (get_or new l [])) e ∙ ap (whole_row_cmp (get_or old i [])) f ∙ less

-- distinct keys are told apart by their order
pub keys_apart : (keys : List (List Datum)) (i j : ℕ) → AreKeys keys → i < length keys → j < length keys → i ≢ j → get_or keys i [] ≢ get_or keys j []
keys_apart keys i j whole p q ne e = elim (cases_lt i j) [
  | inl below ↦ whole.distinct i j [] below q e
  | inr above ↦ whole.distinct j i [] (let far : j < i = omega arith in far) p (sym e)
]

greater_from : (o : Ordering) → o ≢ Less → o ≢ Equal → ordering_reverse o ≡ Less
greater_from Less f g = absurd (f refl)
greater_from Equal f g = absurd (g refl)
greater_from Greater f g = refl

pub split_at : (order : List ℕ) (place at : ℕ) → place < length order → get_or order place 0 ≡ at → order ≡ take place order ++ at ∷ drop (suc place) order
split_at order place at q e =
    sym (take-append-drop place order) ∙ ap (λ zs. take place order ++ zs) (drop_more order place 0 q
    ∙ ap (λ z. z ∷ drop (place + 1) order) e ∙ ap (λ n. at ∷ drop n order) (let same : place + 1 ≡ suc place = omega arith in same))

-- the place that a search finds for the key at a position that is in the order
pub found_at : (keys : List (List Datum)) (order : List ℕ) (at place : ℕ) → IsOrderOf keys order → at < length keys → place ≤ length order
    → ((k : ℕ) → k < place → whole_row_cmp (get_or keys (get_or order k 0) []) (get_or keys at []) ≡ Less)
    → ((k : ℕ) → place ≤ k → k < length order → whole_row_cmp (get_or keys (get_or order k 0) []) (get_or keys at []) ≢ Less)
    → (place < length order) × (get_or order place 0 ≡ at)
found_at keys order at place h there within below from =
    let here = place_of order at (in_from_contains order at (h.complete at there)) in
    let k : ℕ = here.0 in
    let is : get_or order k 0 ≡ at = here.2 0 in
    let inside : k < length order = here.1 in
    elim (cases_lt k place) [
      | inl front ↦ absurd (not_less (at_total keys) at (ap (λ j. key_at_cmp keys j at) (sym is) ∙ below k front))
      | inr past ↦ elim (cases_lt place k) [
        | inl far ↦ absurd (from place (omega arith) (omega arith) (ap (key_at_cmp keys (get_or order place 0)) (sym is) ∙ h.ordered.ascends place k 0 far inside))
        | inr near ↦ let same : place ≡ k = omega arith in ((let q : place < length order = omega arith in q), ap (λ j. get_or order j 0) same ∙ is)
      ]
    ]

-- a position that goes out of the order
pub left : (keys : List (List Datum)) (order : List ℕ) (at place : ℕ) → IsOrderOf keys order → place < length order → get_or order place 0 ≡ at → IsOrderWithout at keys (remove order place)
left keys order at place h q e =
    let split = split_at order place at q e in
    let xs = take place order in
    let ys = drop (suc place) order in
    let up : Ascends (key_at_cmp keys) (xs ++ at ∷ ys) = subst (Ascends (key_at_cmp keys)) split (ascends_from_pairs (key_at_cmp keys) order h.ordered.ascends) in
    record {
      ordered = record {
        within = all_from_in (λ i. i < length keys) (xs ++ ys) (λ i g. all_in (λ i. i < length keys) order i h.ordered.within (subst (IsIn i) (sym split) (middle_in xs at ys i (inr g))));
        ascends = pairs_from_ascends (key_at_cmp keys) (xs ++ ys) (ascends_out (key_at_cmp keys) xs at ys up);
      };
      apart = all_from_in (λ i. i ≢ at) (xs ++ ys) (λ i g. middle_apart (key_at_cmp keys) (at_total keys) xs at ys up i g);
      complete = λ i p ne. contains_from_in (xs ++ ys) i (elim (in_middle xs at ys i (subst (IsIn i) split (in_from_contains order i (h.complete i p)))) [
        | inl same ↦ absurd (ne (sym same))
        | inr g ↦ g
      ]);
    }

-- a position that comes into the order
pub entered : (keys : List (List Datum)) (order : List ℕ) (at place : ℕ) → AreKeys keys → IsOrderWithout at keys order → at < length keys → place ≤ length order
    → ((k : ℕ) → k < place → whole_row_cmp (get_or keys (get_or order k 0) []) (get_or keys at []) ≡ Less)
    → ((k : ℕ) → place ≤ k → k < length order → whole_row_cmp (get_or keys (get_or order k 0) []) (get_or keys at []) ≢ Less)
    → IsOrderOf keys (insert order place at)
entered keys order at place whole h there within below from =
    let xs = take place order in
    let ys = drop place order in
    let split : order ≡ xs ++ ys = sym (take-append-drop place order) in
    let up : Ascends (key_at_cmp keys) (xs ++ ys) = subst (Ascends (key_at_cmp keys)) split (ascends_from_pairs (key_at_cmp keys) order h.ordered.ascends) in
    let inside : (i : ℕ) → IsIn i order → (i < length keys) × (i ≢ at) = λ i g. (all_in (λ i. i < length keys) order i h.ordered.within g, all_in (λ i. i ≢ at) order i h.apart g) in
    let less : (x : ℕ) → IsIn x xs → key_at_cmp keys x at ≡ Less = λ x g. let r = in_front order place x within g in subst (λ j. key_at_cmp keys j at ≡ Less) r.2 (below r.0 r.1) in
    let more : (y : ℕ) → IsIn y ys → key_at_cmp keys at y ≡ Less = λ y g.
    let r = in_back order place y within g in
    let z : ℕ = get_or order r.0 0 in
    let known = inside z (in_at order r.0 0 r.2) in
    let not_equal : key_at_cmp keys z at ≢ Equal = λ tie. keys_apart keys z at whole known.0 there known.1 (whole_row_ties (get_or keys z []) (get_or keys at []) tie) in
    subst (λ j. key_at_cmp keys at j ≡ Less) r.3 ((at_total keys).antisymm at z ∙ greater_from (key_at_cmp keys z at) (from r.0 r.1 r.2) not_equal) in
    record {
      ordered = record {
        within = all_from_in (λ i. i < length keys) (xs ++ at ∷ ys) (λ i g. elim (in_middle xs at ys i g) [
          | inl same ↦ subst (λ j. j < length keys) same there
          | inr k ↦ (inside i (subst (IsIn i) (sym split) k)).0
        ]);
        ascends = pairs_from_ascends (key_at_cmp keys) (xs ++ at ∷ ys) (ascends_in (key_at_cmp keys) xs at ys up less more);
      };
      complete = λ i p. contains_from_in (xs ++ at ∷ ys) i (middle_in xs at ys i (elim (cases_eq i at) [
        | inl same ↦ inl (sym same)
        | inr ne ↦ inr (subst (IsIn i) split (in_from_contains order i (h.complete i p ne)))
      ]));
    }

-- a key that comes
module _ (keys : List (List Datum)) (at : ℕ) (key : List Datum) (within : at ≤ length keys) where
  key_opened : (k : ℕ) → get_or (insert keys at key) (opened at k) [] ≡ get_or keys k []
  key_opened k = elim (cases_lt k at) [
    | inl below ↦ ap (λ j. get_or (insert keys at key) j []) (opened_below at k below) ∙ get_or-insert_below keys at key [] k below within
    | inr above ↦ ap (λ j. get_or (insert keys at key) j []) (opened_above at k (omega arith)) ∙ get_or-insert_above keys at key [] k (omega arith) within
  ]

  opened_in : (k : ℕ) → k < length keys → opened at k < length (insert keys at key)
  opened_in k q = let e = length-insert keys at key within in grind (arith, nat_tests)

  closed_in : (k : ℕ) → k ≢ at → k < length (insert keys at key) → closed at k < length keys
  closed_in k ne q = let e = length-insert keys at key within in grind (arith, nat_tests)

  pub roomy : (order : List ℕ) → IsOrderOf keys order → IsOrderWithout at (insert keys at key) (map (opened at) order)
  roomy order h = record {
    ordered = record {
      within = all_from_in (λ i. i < length (insert keys at key)) (map (opened at) order) (λ i g.
          let r = map_in (opened at) order i g in
          subst (λ j. j < length (insert keys at key)) r.2 (opened_in r.0 (all_in (λ i. i < length keys) order r.0 h.ordered.within r.1)));
      ascends = pairs_from_ascends (key_at_cmp (insert keys at key)) (map (opened at) order)
          (ascends_map (key_at_cmp keys) (key_at_cmp (insert keys at key)) (opened at) order
          (λ j k p q less. at_same keys (insert keys at key) j k (opened at j) (opened at k) (key_opened j) (key_opened k) less)
          (ascends_from_pairs (key_at_cmp keys) order h.ordered.ascends));
    };
    apart = all_from_in (λ i. i ≢ at) (map (opened at) order) (λ i g. let r = map_in (opened at) order i g in subst (λ j. j ≢ at) r.2 (opened_apart at r.0));
    complete = λ i p ne. contains_from_in (map (opened at) order) i
        (subst (λ j. IsIn j (map (opened at) order)) (opened_closed at i ne)
        (in_map (opened at) order (closed at i) (in_from_contains order (closed at i) (h.complete (closed at i) (closed_in i ne p)))));
  }

-- a key that goes
module _ (keys : List (List Datum)) (at : ℕ) (there : at < length keys) where
  key_closed : (k : ℕ) → k ≢ at → get_or (remove keys at) (closed at k) [] ≡ get_or keys k []
  key_closed k ne = elim (cases_lt k at) [
    | inl below ↦ ap (λ j. get_or (remove keys at) j []) (closed_below at k below) ∙ get_or-remove_below keys at [] k below there
    | inr above ↦
        let far : at < k = omega arith in
        ap (λ j. get_or (remove keys at) j []) (closed_above at k far) ∙ get_or-remove_above keys at [] (k - 1) (omega arith) there ∙ ap (λ j. get_or keys j []) (let e : k - 1 + 1 ≡ k = omega arith in e)
  ]

  rest_in : (k : ℕ) → k ≢ at → k < length keys → closed at k < length (remove keys at)
  rest_in k ne q = let e = length-remove keys at there in grind (arith, nat_tests)

  whole_in : (k : ℕ) → k < length (remove keys at) → opened at k < length keys
  whole_in k q = let e = length-remove keys at there in grind (arith, nat_tests)

  pub gapless : (order : List ℕ) → IsOrderWithout at keys order → IsOrderOf (remove keys at) (map (closed at) order)
  gapless order h =
      let apart : (i : ℕ) → IsIn i order → i ≢ at = λ i g. all_in (λ i. i ≢ at) order i h.apart g in
      record {
        ordered = record {
          within = all_from_in (λ i. i < length (remove keys at)) (map (closed at) order) (λ i g.
              let r = map_in (closed at) order i g in
              subst (λ j. j < length (remove keys at)) r.2 (rest_in r.0 (apart r.0 r.1) (all_in (λ i. i < length keys) order r.0 h.ordered.within r.1)));
          ascends = pairs_from_ascends (key_at_cmp (remove keys at)) (map (closed at) order)
              (ascends_map (key_at_cmp keys) (key_at_cmp (remove keys at)) (closed at) order
              (λ j k p q less. at_same keys (remove keys at) j k (closed at j) (closed at k) (key_closed j (apart j p)) (key_closed k (apart k q)) less)
              (ascends_from_pairs (key_at_cmp keys) order h.ordered.ascends));
        };
        complete = λ i p. contains_from_in (map (closed at) order) i
            (subst (λ j. IsIn j (map (closed at) order)) (closed_opened at i)
            (in_map (closed at) order (opened at i) (in_from_contains order (opened at i) (h.complete (opened at i) (whole_in i p) (opened_apart at i)))));
      }

  -- all that is left stands below the number of keys
  pub gap_within : (order : List ℕ) → IsOrderWithout at keys order → All (λ i. i ≤ length (remove keys at)) order
  gap_within order h = all_from_in (λ i. i ≤ length (remove keys at)) order (λ i g.
      let e = length-remove keys at there in
      let p = all_in (λ i. i < length keys) order i h.ordered.within g in
      omega arith)

-- a key that changes
pub changed : (keys : List (List Datum)) (order : List ℕ) (at : ℕ) (key : List Datum) → IsOrderWithout at keys order → IsOrderWithout at (set keys at key) order
changed keys order at key h =
    let long : length (set keys at key) ≡ length keys = length-set keys at key in
    let other : (i : ℕ) → i ≢ at → get_or (set keys at key) i [] ≡ get_or keys i [] = λ i ne. get_or-set_other keys at i key [] ne in
    record {
      ordered = record {
        within = λ k d p. let q = h.ordered.within k d p in omega arith;
        ascends = λ i j d p q.
            let one = get_or order i d in
            let two = get_or order j d in
            at_same keys (set keys at key) one two one two (other one (h.apart i d (omega arith))) (other two (h.apart j d q)) (h.ordered.ascends i j d p q);
      };
      apart = h.apart;
      complete = λ i p ne. h.complete i (omega arith) ne;
    }

-- nothing moves where the key came or went at the end
map_still : (f : ℕ → ℕ) (xs : List ℕ) → All (λ i. f i ≡ i) xs → xs ≡ map f xs
map_still f [] same = refl
map_still f (x ∷ xs) same =
    ap (λ y. y ∷ xs) (sym (same 0 x (omega arith))) ∙ ap (λ ys. f x ∷ ys) (map_still f xs (λ k d p. same (suc k) d (omega arith)))

-- an order has no more positions than there are keys
pub few_ordered : (keys : List (List Datum)) (order : List ℕ) → AreOrdered keys order → length order ≤ length keys
few_ordered keys order h = length-le_from_distinct_below order (length keys)
    (IsDistinct-from_AllPairs Decides-eqb order (λ i j d p q e. not_less (at_total keys) (get_or order j d) (ap (λ x. key_at_cmp keys x (get_or order j d)) (sym e) ∙ h.ascends i j d p q)))
    (λ q found. all_in (λ i. i < length keys) order q h.within (in_from_contains order q (Contains-from_any (λ x y e. (Decides-eqb x y).0 e) q order found)))

pub still_closed : (at size : ℕ) (order : List ℕ) → All (λ i. i ≤ size) order → size ≤ at → order ≡ map (closed at) order
still_closed at size order within last = map_still (closed at) order (λ k d p. let q = within k d p in grind (arith, nat_tests))

pub still_opened : (at size : ℕ) (order : List ℕ) → All (λ i. i < size) order → size ≤ at → order ≡ map (opened at) order
still_opened at size order within last = map_still (opened at) order (λ k d p. let q = within k d p in grind (arith, nat_tests))

-- in the order a key in front of one that is less than another is less too
pub keys_fall : (keys : List (List Datum)) (order : List ℕ) (key : List Datum) → AreOrdered keys order
    → (i j : ℕ) → i < j → j < length order → whole_row_cmp (get_or keys (get_or order j 0) []) key ≡ Less → whole_row_cmp (get_or keys (get_or order i 0) []) key ≡ Less
keys_fall keys order key h i j p q less =
    whole_row_cmp_total.trans (get_or keys (get_or order i 0) []) (get_or keys (get_or order j 0) []) key (h.ascends i j 0 p q) less

-- the keys that are left differ
pub fewer : (keys : List (List Datum)) (at : ℕ) → at < length keys → AreKeys keys → AreKeys (remove keys at)
fewer keys at there whole = record {
  few = (let e = length-remove keys at there in let f = whole.few in omega arith);
  distinct = all_pairs_remove (λ a b. a ≢ b) keys at there whole.distinct;
}

-- what a search finds of a key
module _ (keys : List (List Datum)) (order : List ℕ) (key : List Datum) (place : ℕ) (h : IsIndexOf keys order) (within : place ≤ length order)
    (below : (k : ℕ) → k < place → whole_row_cmp (get_or keys (get_or order k 0) []) key ≡ Less)
    (from : (k : ℕ) → place ≤ k → k < length order → whole_row_cmp (get_or keys (get_or order k 0) []) key ≢ Less) where
  pub missed : (place < length order → whole_row_cmp (get_or keys (get_or order place 0) []) key ≢ Equal) → (i : ℕ) → i < length keys → get_or keys i [] ≢ key
  missed other i p e =
      let here = place_of order i (in_from_contains order i (h.ordered.complete i p)) in
      let k : ℕ = here.0 in
      let is : get_or order k 0 ≡ i = here.2 0 in
      let inside : k < length order = here.1 in
      let same : get_or keys (get_or order k 0) [] ≡ key = ap (λ j. get_or keys j []) is ∙ e in
      let tie : whole_row_cmp (get_or keys (get_or order k 0) []) key ≡ Equal = ap (λ z. whole_row_cmp z key) same ∙ tied_itself whole_row_cmp_total key in
      elim (cases_lt k place) [
        | inl front ↦ less_equal (sym (below k front) ∙ tie)
        | inr past ↦ elim (cases_lt place k) [
          | inl far ↦ from place (omega arith) (omega arith) (ap (whole_row_cmp (get_or keys (get_or order place 0) [])) (sym same) ∙ h.ordered.ordered.ascends place k 0 far inside)
          | inr near ↦ let at : place ≡ k = omega arith in other (omega arith) (ap (λ j. whole_row_cmp (get_or keys (get_or order j 0) []) key) at ∙ tie)
        ]
      ]
    where
      less_equal : Less ≡ Equal → ⊥
      less_equal e = cc
