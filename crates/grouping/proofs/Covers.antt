-- Rows among whose keys each key is.
use Rattle.std.proofs.Common.{◌≡◌, ℕ, ◌+◌, ◌<◌, ◌≤◌, true, List, [], ◌∷◌, ◌++◌, length, get_or, map, set, All, Contains, refl, ap, sym, subst, ◌∙◌, inl, inr, arith}
use Rattle.std.proofs.lemmas.Bool.{cases_lt}
use Rattle.std.proofs.lemmas.List.{get_or-map, length-append, length-map}
use Rattle.std.proofs.lemmas.List.Elements.{All-head, All-push, All-set, All-tail, All-weaker, Contains-append_left, Contains-push}
use Rattle.std.specs.declared.cmp.Ordering.{Ordering}
use Rattle.std.specs.Ordering.{is_eq}
use Rattle.mk_value.specs.Data.{Datum}
use Rattle.relations.specs.OrderLaws.{whole_row_ties}
use Rattle.relations.specs.WholeOrder.{whole_row_cmp}
use Rattle.relations.proofs.Ascending.{IsIn, in_at, in_from_contains, place_of}
use Rattle.relations.proofs.Equal.{equal_from_is}
use Rattle.grouping.specs.Index.{Cover, keys_of}
use Rattle.grouping.proofs.Ascending.{in_map, in_map_back}
use Rattle.grouping.proofs.DistinctRows.{in_keys, in_keys_back, keys_are, keys_ascend}

module _ (keys : List (List Datum)) (at : ℕ) (kept : List ℕ) (before : Cover keys at kept) where
  -- a key that is the same as that of a kept row
  pub cover_seen : (other : ℕ) (o : Ordering) → Contains kept other → o ≡ whole_row_cmp (get_or keys other []) (get_or keys at []) → is_eq o ≡ true → Cover keys (at + 1) kept
  cover_seen other o known e t = record {
    few = let f = before.few in omega arith;
    within = before.within;
    each = λ i p. elim (cases_lt i at) [
      | inl q ↦ before.each i q
      | inr q ↦ (other, known, whole_row_ties (get_or keys other []) (get_or keys at []) (sym e ∙ equal_from_is o t) ∙ ap (λ k. get_or keys k []) (let same : at ≡ i = omega arith in same))
    ];
  }

  -- a row that is kept
  pub cover_kept : at < length keys → Cover keys (at + 1) (kept ++ at ∷ [])
  cover_kept p = record {
    few = let f = before.few in let l = length-append kept (at ∷ []) in omega arith;
    within = All-push (λ i. i < length keys) kept at before.within p;
    each = λ i q. elim (cases_lt i at) [
      | inl r ↦ (let b = before.each i r in (b.0, Contains-append_left kept (at ∷ []) b.0 b.1, b.2))
      | inr r ↦ (at, Contains-push kept at, ap (λ k. get_or keys k []) (let same : at ≡ i = omega arith in same))
    ];
  }

-- the kept rows stay known as one is added, and the added one is known
pub known_more : (kept seen : List ℕ) (place at : ℕ) → All (Contains kept) seen → All (Contains (kept ++ at ∷ [])) (set seen place at)
known_more kept seen place at known =
    All-set (Contains (kept ++ at ∷ [])) seen place at (Contains-push kept at) (All-weaker (Contains kept) (Contains (kept ++ at ∷ [])) (λ k h. Contains-append_left kept (at ∷ []) k h) seen known)

-- two lists of the same keys have the same distinct keys
keys_same : (xs ys : List (List Datum)) → ((z : List Datum) → IsIn z xs → IsIn z ys) → ((z : List Datum) → IsIn z ys → IsIn z xs) → keys_of xs ≡ keys_of ys
keys_same xs ys f g = keys_are ys (keys_of xs) (keys_ascend xs) (λ z h. f z (in_keys_back xs z h)) (λ z h. in_keys xs z (g z h))

-- the distinct keys of the kept rows are those of all
pub cover_keys : (keys : List (List Datum)) (kept : List ℕ) → Cover keys (length keys) kept → keys_of (map (λ k. get_or keys k []) kept) ≡ keys_of keys
cover_keys keys kept cover = keys_same (map (λ k. get_or keys k []) kept) keys back onto
  where
    back : (z : List Datum) → IsIn z (map (λ k. get_or keys k []) kept) → IsIn z keys
    back z h =
        let r = in_map_back (λ k. get_or keys k []) kept z h in
        let s = place_of kept r.0 r.1 in
        let p : r.0 < length keys = subst (λ k. k < length keys) (s.2 0) (cover.within s.0 0 s.1) in
        subst (λ x. IsIn x keys) r.2 (in_at keys r.0 [] p)

    onto : (z : List Datum) → IsIn z keys → IsIn z (map (λ k. get_or keys k []) kept)
    onto z h =
        let r = place_of keys z h in
        let b = cover.each r.0 r.1 in
        subst (λ x. IsIn x (map (λ k. get_or keys k []) kept)) (b.2 ∙ r.2 []) (in_map (λ k. get_or keys k []) kept b.0 (in_from_contains kept b.0 b.1))

-- of the rows at some positions the keys are those at these positions
pub keys_at : (f : List Datum → List Datum) (rows : List (List Datum)) (kept : List ℕ) → All (λ i. i < length rows) kept → map f (map (λ i. get_or rows i []) kept) ≡ map (λ k. get_or (map f rows) k []) kept
keys_at f rows [] within = refl
keys_at f rows (i ∷ kept) within =
    ap (λ key. key ∷ map f (map (λ i. get_or rows i []) kept)) (sym (get_or-map f rows i [] [] (All-head (λ i. i < length rows) i kept within)))
    ∙ ap (λ keys. get_or (map f rows) i [] ∷ keys) (keys_at f rows kept (All-tail (λ i. i < length rows) i kept within))

-- the rows that are kept have as many distinct keys as all
module _ (f : List Datum → List Datum) (rows : List (List Datum)) (kept : List ℕ) (cover : Cover (map f rows) (length (map f rows)) kept) where
  pub kept_in : All (λ i. i < length rows) kept
  kept_in = All-weaker (λ i. i < length (map f rows)) (λ i. i < length rows) (λ i p. let long = length-map rows f in omega arith) kept cover.within

  pub kept_few : length kept ≤ length rows
  kept_few = let long = length-map rows f in let few = cover.few in omega arith

  pub kept_keys : keys_of (map f (map (λ i. get_or rows i []) kept)) ≡ keys_of (map f rows)
  kept_keys = ap keys_of (keys_at f rows kept kept_in) ∙ cover_keys (map f rows) kept cover
