-- What an index keeps tells of its groups.
use Rattle.std.proofs.Common.{◌≡◌, ◌⊎◌, ℕ, zero, suc, ◌+◌, ◌-◌, ◌<◌, ◌≤◌, Bool, true, false, not, ◌||◌, List, [], ◌∷◌, length, get_or, take, drop, map, refl, ap, sym, subst, ◌∙◌, inl, inr, arith}
use Rattle.std.specs.declared.cmp.Ordering.{Ordering}
use Rattle.std.specs.declared.cmp.Ordering.TheVariants.{Less, Equal, Greater}
use Rattle.std.specs.Ordering.{is_eq, is_ne, is_lt}
use Rattle.std.proofs.lemmas.Bool.{false≢true, cases_Bool, cases_lt}
use Rattle.std.proofs.lemmas.Cmp.{tied_itself}
use Rattle.std.proofs.lemmas.List.{length-map, get_or-map, get_or_past}
use Rattle.mk_value.specs.Data.{Datum}
use Rattle.mk_value.proofs.Walks.{same_default}
use Rattle.relations.specs.Equality.{same_row, is_row_among}
use Rattle.relations.specs.WholeOrder.{whole_row_cmp}
use Rattle.relations.specs.OrderLaws.{whole_row_cmp_total, whole_row_ties}
use Rattle.grouping.specs.Index.{positions_of, keys_of, keys_less, IsIndexOf, is_start, starts_below}
use Rattle.relations.proofs.Ascending.{IsIn, in_at, place_of}
use Rattle.grouping.proofs.Ascending.{ascends_at}
use Rattle.relations.proofs.Equal.{rows_equal, same_from_equal, same_row_is}
use Rattle.grouping.proofs.DistinctRows.{in_keys, in_keys_back, keys_ascend, key_less, key_not_less}
use Rattle.grouping.proofs.Orders.{keys_at_starts, start_in, group_positions}
use Rattle.grouping.proofs.Positions.{positions_none, some_positions}

is_start_suc : (rows : List (List Datum)) (order : List ℕ) (place before : ℕ) → place ≡ before + 1 → is_start rows order place ≡ not (same_row (get_or rows (get_or order before 0) []) (get_or rows (get_or order place 0) []))
is_start_suc rows order zero before e = absurd (omega arith)
is_start_suc rows order (suc k) before e =
    let same : k ≡ before = omega arith in
    ap (λ z. not (same_row (get_or rows (get_or order z 0) []) (get_or rows (get_or order (suc k) 0) []))) same

not_eq : (o : Ordering) → is_ne o ≡ not (is_eq o)
not_eq Less = refl
not_eq Equal = refl
not_eq Greater = refl

-- behind the first place a group begins where the two rows differ
pub start_found : (rows : List (List Datum)) (order : List ℕ) (place before : ℕ) (a b : List Datum) → place ≡ before + 1 → a ≡ get_or rows (get_or order before 0) [] → b ≡ get_or rows (get_or order place 0) []
    → is_ne (whole_row_cmp a b) ≡ is_start rows order place
start_found rows order place before a b e f g =
    not_eq (whole_row_cmp a b) ∙ ap not (sym (same_row_is a b)) ∙ (λ i. not (same_row (f i) (g i))) ∙ sym (is_start_suc rows order place before e)

-- the search: of a place that is not the row's, and of the row's
pub search_misses : (rows : List (List Datum)) (row : List Datum) (group : ℕ) → group ≡ keys_less rows row → (length (keys_of rows) ≤ group) ⊎ (whole_row_cmp (get_or (keys_of rows) group []) row ≡ Equal → ⊥) → IsIn row rows → ⊥
search_misses rows row group e miss h =
    let r = place_of (keys_of rows) row (in_keys rows row h) in
    let tied : whole_row_cmp (get_or (keys_of rows) r.0 []) row ≡ Equal = ap (λ z. whole_row_cmp z row) (r.2 []) ∙ tied_itself whole_row_cmp_total row in
    let past = key_not_less rows row r.0 [] r.1 (ap is_lt tied) in
    let p = r.1 in
    elim miss [
      | inl q ↦ absurd (omega arith)
      | inr differ ↦ elim (cases_lt group r.0) [
        | inl q ↦ (let below : whole_row_cmp (get_or (keys_of rows) group []) row ≡ Less =
            subst (λ z. whole_row_cmp (get_or (keys_of rows) group []) z ≡ Less) (r.2 []) (ascends_at whole_row_cmp (keys_of rows) (keys_ascend rows) group r.0 [] q r.1) in
            let more = key_less rows row group [] (omega arith) (ap is_lt below) in
            absurd (omega arith))
        | inr q ↦ (let same : r.0 ≡ group = omega arith in absurd (differ (ap (λ z. whole_row_cmp (get_or (keys_of rows) z []) row) (sym same) ∙ tied)))
      ]
    ]

among_none : (rows : List (List Datum)) (row : List Datum) → (IsIn row rows → ⊥) → is_row_among rows row ≡ false
among_none [] row none = refl
among_none (first ∷ rest) row none = elim (cases_Bool (same_row first row)) [
  | inl t ↦ absurd (none (inl (rows_equal first row t)))
  | inr f ↦ either (same_row first row) f (among_none rest row (λ h. none (inr h)))
]
  where
    either : (b : Bool) → b ≡ false → is_row_among rest row ≡ false → (b || is_row_among rest row) ≡ false
    either true e f = absurd (false≢true (sym e))
    either false e f = f

among_some : (rows : List (List Datum)) (row : List Datum) → IsIn row rows → is_row_among rows row ≡ true
among_some [] row h = absurd h
among_some (first ∷ rest) row (inl e) = yes (same_row first row) (same_from_equal first row e)
  where
    yes : (b : Bool) → b ≡ true → (b || is_row_among rest row) ≡ true
    yes true e = refl
    yes false e = absurd (false≢true e)
among_some (first ∷ rest) row (inr h) = yes (same_row first row) (among_some rest row h)
  where
    yes : (b : Bool) → is_row_among rest row ≡ true → (b || is_row_among rest row) ≡ true
    yes true e = refl
    yes false e = e

-- what the search has found
pub found_positions : (rows : List (List Datum)) (row key : List Datum) → whole_row_cmp key row ≡ Equal → positions_of rows key ≡ positions_of rows row
found_positions rows row key tied = ap (positions_of rows) (whole_row_ties key row tied)

pub found_among : (rows : List (List Datum)) (row : List Datum) (group : ℕ) → group < length (keys_of rows) → whole_row_cmp (get_or (keys_of rows) group []) row ≡ Equal → true ≡ is_row_among rows row
found_among rows row group p tied =
    sym (among_some rows row (subst (λ z. IsIn z rows) (whole_row_ties (get_or (keys_of rows) group []) row tied) (in_keys_back rows (get_or (keys_of rows) group []) (in_at (keys_of rows) group [] p))))

pub missed_among : (rows : List (List Datum)) (row : List Datum) (group : ℕ) → group ≡ keys_less rows row → (length (keys_of rows) ≤ group) ⊎ (whole_row_cmp (get_or (keys_of rows) group []) row ≡ Equal → ⊥) → false ≡ is_row_among rows row
missed_among rows row group e miss = sym (among_none rows row (search_misses rows row group e miss))

pub missed_positions : (rows : List (List Datum)) (row : List Datum) (group : ℕ) → group ≡ keys_less rows row → (length (keys_of rows) ≤ group) ⊎ (whole_row_cmp (get_or (keys_of rows) group []) row ≡ Equal → ⊥) → [] ≡ positions_of rows row
missed_positions rows row group e miss = sym (positions_none rows row (search_misses rows row group e miss))

pub key_has_positions : (rows : List (List Datum)) (group : ℕ) → group < length (keys_of rows) → 0 < length (positions_of rows (get_or (keys_of rows) group []))
key_has_positions rows group p =
    some_positions rows (get_or (keys_of rows) group []) (in_keys_back rows (get_or (keys_of rows) group []) (in_at (keys_of rows) group [] p))

-- whether the key at the place of the search is the row
pub found_is : (rows : List (List Datum)) (row : List Datum) (group : ℕ) → group < length (keys_of rows) → group ≡ keys_less rows row → is_eq (whole_row_cmp (get_or (keys_of rows) group []) row) ≡ is_row_among rows row
found_is rows row group p e = elim (cases_Bool (is_eq (whole_row_cmp (get_or (keys_of rows) group []) row))) [
  | inl t ↦ t ∙ found_among rows row group p (tied (whole_row_cmp (get_or (keys_of rows) group []) row) t)
  | inr f ↦ f ∙ missed_among rows row group e (inr (λ g. false≢true (sym f ∙ ap is_eq g)))
]
  where
    tied : (o : Ordering) → is_eq o ≡ true → o ≡ Equal
    tied Less t = absurd (false≢true t)
    tied Equal t = refl
    tied Greater t = absurd (false≢true t)

pub end_within : (xs : List ℕ) (i d : ℕ) → i < length xs → get_or xs i 0 ≡ get_or xs i d
end_within xs i d p = same_default xs i 0 d p

pub end_past : (xs : List ℕ) (i d : ℕ) → length xs ≤ i → d ≡ get_or xs i d
end_past xs i d p = sym (get_or_past xs i d p)

module _ (rows : List (List Datum)) (order starts : List ℕ) (whole : IsIndexOf rows order starts) where
  row_at : ℕ → List Datum
  row_at k = get_or rows (get_or order k 0) []

  keys_are : map (λ k. get_or rows (get_or order k 0) []) starts ≡ keys_of rows
  keys_are = ap (map (λ k. get_or rows (get_or order k 0) [])) whole.begins ∙ keys_at_starts rows order whole.ordered

  pub as_many : length starts ≡ length (keys_of rows)
  as_many = sym (length-map starts (λ k. get_or rows (get_or order k 0) [])) ∙ ap (λ (zs : List (List Datum)). length zs) keys_are

  pub start_in_order : (group : ℕ) → group < length starts → get_or starts group 0 < length order
  start_in_order group p =
      let q : group < length (starts_below rows order (length order)) = subst (λ (zs : List ℕ). group < length zs) whole.begins p in
      let r = (start_in rows order whole.ordered (length order) (get_or (starts_below rows order (length order)) group 0) (in_at (starts_below rows order (length order)) group 0 q)).0 in
      subst (λ (zs : List ℕ). get_or zs group 0 < length order) (sym whole.begins) r

  pub first_in_rows : (group : ℕ) → group < length starts → get_or order (get_or starts group 0) 0 < length rows
  first_in_rows group p = whole.ordered.in_range (get_or starts group 0) 0 (start_in_order group p)

  pub key_at : (group : ℕ) → group < length starts → get_or rows (get_or order (get_or starts group 0) 0) [] ≡ get_or (keys_of rows) group []
  key_at group p =
      sym (get_or-map (λ k. get_or rows (get_or order k 0) []) starts group 0 [] p) ∙ ap (λ (zs : List (List Datum)). get_or zs group []) keys_are

  -- the part of a group
  pub part_at : (group s e : ℕ) → group < length starts → s ≡ get_or starts group 0 → e ≡ get_or starts (group + 1) (length order)
      → (s < e) × (e ≤ length order) × (take (e - s) (drop s order) ≡ positions_of rows (get_or (keys_of rows) group []))
  part_at group s e p at end =
      let q : group < length (starts_below rows order (length order)) = subst (λ (zs : List ℕ). group < length zs) whole.begins p in
      let r = group_positions rows order whole.ordered group s e q (at ∙ ap (λ (zs : List ℕ). get_or zs group 0) whole.begins) (end ∙ ap (λ (zs : List ℕ). get_or zs (group + 1) (length order)) whole.begins) in
      (r.0, r.1, r.2 ∙ ap (positions_of rows) (ap (λ k. get_or rows (get_or order k 0) []) at ∙ key_at group p))

  -- of an index that is seen as these rows
  module _ (seen : List (List Datum)) (view : rows ≡ seen) (group : ℕ) (few : group < length (keys_of seen)) where
    pub in_starts : group < length starts
    in_starts = subst (λ n. group < n) (ap (λ (zs : List (List Datum)). length (keys_of zs)) (sym view) ∙ sym as_many) few

    pub start_read : (s : ℕ) → s ≡ get_or starts group s → s ≡ get_or starts group 0
    start_read s e = e ∙ same_default starts group s 0 in_starts

    pub start_below : (s : ℕ) → s ≡ get_or starts group s → s < length order
    start_below s e = subst (λ n. n < length order) (sym (start_read s e)) (start_in_order group in_starts)

    pub first_read : (s i : ℕ) → s ≡ get_or starts group s → i ≡ get_or order s i → i ≡ get_or order (get_or starts group 0) 0
    first_read s i e f = f ∙ same_default order s i 0 (start_below s e) ∙ ap (λ n. get_or order n 0) (start_read s e)

    pub first_below : (s i : ℕ) → s ≡ get_or starts group s → i ≡ get_or order s i → i < length rows
    first_below s i e f = subst (λ n. n < length rows) (sym (first_read s i e f)) (first_in_rows group in_starts)

    pub first_key : (s i : ℕ) → s ≡ get_or starts group s → i ≡ get_or order s i → get_or rows i [] ≡ get_or (keys_of seen) group []
    first_key s i e f =
        ap (λ n. get_or rows n []) (first_read s i e f) ∙ key_at group in_starts ∙ ap (λ (zs : List (List Datum)). get_or (keys_of zs) group []) view

    pub key_read : (s i : ℕ) (read : List (List Datum)) (row : List Datum) → s ≡ get_or starts group s → i ≡ get_or order s i → read ≡ rows → row ≡ get_or read i row → row ≡ get_or (keys_of seen) group []
    key_read s i read row e f same at =
        at ∙ ap (λ (zs : List (List Datum)). get_or zs i row) same ∙ same_default rows i row [] (first_below s i e f) ∙ first_key s i e f

    pub part_read : (s e : ℕ) (read : List ℕ) → s ≡ get_or starts group s → e ≡ get_or starts (group + 1) (length order) → read ≡ order
        → (s ≤ e) × (e ≤ length read) × (take (e - s) (drop s read) ≡ positions_of seen (get_or (keys_of seen) group []))
    part_read s e read p q same =
        let r = part_at group s e in_starts (start_read s p) q in
        let some = r.0 in (
          omega arith,
          subst (λ (zs : List ℕ). e ≤ length zs) (sym same) r.1,
          ap (λ (zs : List ℕ). take (e - s) (drop s zs)) same ∙ r.2 ∙ ap (λ (zs : List (List Datum)). positions_of zs (get_or (keys_of zs) group [])) view,
        )
