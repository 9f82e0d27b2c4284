-- The keys of two indexes side by side, and marks at the places of groups.
use Rattle.std.proofs.Common.{◌≡◌, ℕ, zero, suc, ◌+◌, ◌<◌, ◌≤◌, Bool, true, false, ◌&&◌, nat_lt, List, [], ◌∷◌, ◌++◌, length, get_or, map, set, All, refl, ap, sym, ◌∙◌, inl, inr, arith}
use Rattle.std.specs.declared.cmp.Ordering.{Ordering}
use Rattle.std.specs.declared.cmp.Ordering.TheVariants.{Less, Equal, Greater}
use Rattle.std.specs.Ordering.{is_eq, is_lt}
use Rattle.std.proofs.lemmas.Bool.{cases_Bool, cases_eq, cases_lt, false≢true}
use Rattle.std.proofs.lemmas.Grind.{get_or-set_at}
use Rattle.std.proofs.lemmas.List.{ext_get_or, get_or-map, get_or-set_other, length-map, length-set}
use Rattle.mk_value.specs.Data.{Datum}
use Rattle.relations.specs.Equality.{is_row_among, same_row}
use Rattle.relations.specs.OrderLaws.{whole_row_cmp_total}
use Rattle.relations.specs.WholeOrder.{whole_row_cmp}
use Rattle.relations.proofs.Ascending.{IsIn, in_at, place_of}
use Rattle.relations.proofs.Equal.{rows_equal, same_from_equal}
use Rattle.grouping.specs.Index.{keys_less, keys_of, positions_of}
use Rattle.grouping.specs.Marks.{marked}
use Rattle.grouping.proofs.Ascending.{ascends_at}
use Rattle.grouping.proofs.DistinctRows.{in_keys, key_less, key_not_less, keys_ascend, keys_less_few}
use Rattle.grouping.proofs.Indexes.{found_is, missed_among}
use Rattle.grouping.proofs.Positions.{in_positions, in_positions_back}

less_from : (o : Ordering) → is_lt o ≡ true → o ≡ Less
less_from Less e = refl
less_from Equal e = absurd (false≢true e)
less_from Greater e = absurd (false≢true e)

-- no fewer keys are less than a greater one
keys_less_up : (rows : List (List Datum)) (a b : List Datum) → whole_row_cmp a b ≡ Less → keys_less rows a ≤ keys_less rows b
keys_less_up rows a b e = at (keys_less rows a) refl
  where
    at : (n : ℕ) → keys_less rows a ≡ n → keys_less rows a ≤ keys_less rows b
    at zero z = omega arith
    at (suc k) z =
        let few = keys_less_few rows a in
        let p : k < length (keys_of rows) = omega arith in
        elim (cases_Bool (is_lt (whole_row_cmp (get_or (keys_of rows) k []) a))) [
          | inl t ↦ (let less = whole_row_cmp_total.trans (get_or (keys_of rows) k []) a b (less_from (whole_row_cmp (get_or (keys_of rows) k []) a) t) e in
              let more = key_less rows b k [] p (ap is_lt less) in
              omega arith)
          | inr f ↦ (let most = key_not_less rows a k [] p f in absurd (omega arith))
        ]

-- what is less than the key of a group is less than that of the next
pub known_next : (rows others : List (List Datum)) (group place : ℕ) → group + 1 < length (keys_of rows) → place ≡ keys_less others (get_or (keys_of rows) group []) → place ≤ keys_less others (get_or (keys_of rows) (group + 1) [])
known_next rows others group place p e =
    let up = keys_less_up others (get_or (keys_of rows) group []) (get_or (keys_of rows) (group + 1) []) (ascends_at whole_row_cmp (keys_of rows) (keys_ascend rows) group (group + 1) [] (omega arith) p) in
    omega arith

below : (g n : ℕ) → nat_lt g n ≡ true → g < n
below g n h = grind arith

not_below : (g n : ℕ) → nat_lt g n ≡ false → n ≤ g
not_below g n h = grind arith

-- whether the key behind those that are less is the row
pub found_at : (rows : List (List Datum)) (row : List Datum) (place : ℕ) → place ≡ keys_less rows row
    → (nat_lt place (length (keys_of rows)) && is_eq (whole_row_cmp (get_or (keys_of rows) place []) row)) ≡ is_row_among rows row
found_at rows row place e = elim (cases_Bool (nat_lt place (length (keys_of rows)))) [
  | inl t ↦ ap (λ b. b && is_eq (whole_row_cmp (get_or (keys_of rows) place []) row)) t ∙ found_is rows row place (below place (length (keys_of rows)) t) e
  | inr f ↦ ap (λ b. b && is_eq (whole_row_cmp (get_or (keys_of rows) place []) row)) f ∙ missed_among rows row place e (inl (not_below place (length (keys_of rows)) f))
]

-- marks at places
pub length_marked : (places : List ℕ) (mark : Bool) (marks : List Bool) → length (marked places mark marks) ≡ length marks
length_marked [] mark marks = refl
length_marked (p ∷ places) mark marks = length_marked places mark (set marks p mark) ∙ length-set marks p mark

pub marked_more : (places : List ℕ) (p : ℕ) (mark : Bool) (marks : List Bool) → marked (places ++ p ∷ []) mark marks ≡ set (marked places mark marks) p mark
marked_more [] p mark marks = refl
marked_more (q ∷ places) p mark marks = marked_more places p mark (set marks q mark)

still_marked : (places : List ℕ) (mark : Bool) (marks : List Bool) (i : ℕ) → i < length marks → get_or marks i false ≡ mark → get_or (marked places mark marks) i false ≡ mark
still_marked [] mark marks i q e = e
still_marked (p ∷ places) mark marks i q e =
    let long = length-set marks p mark in
    still_marked places mark (set marks p mark) i (omega arith) (elim (cases_eq i p) [
      | inl same ↦ get_or-set_at marks p i mark false same (omega arith)
      | inr other ↦ get_or-set_other marks p i mark false other ∙ e
    ])

marked_in : (places : List ℕ) (mark : Bool) (marks : List Bool) (i : ℕ) → i < length marks → IsIn i places → get_or (marked places mark marks) i false ≡ mark
marked_in [] mark marks i q h = absurd h
marked_in (p ∷ places) mark marks i q (inl e) =
    let long = length-set marks p mark in
    still_marked places mark (set marks p mark) i (omega arith) (get_or-set_at marks p i mark false (sym e) (omega arith))
marked_in (p ∷ places) mark marks i q (inr h) = let long = length-set marks p mark in marked_in places mark (set marks p mark) i (omega arith) h

marked_out : (places : List ℕ) (mark : Bool) (marks : List Bool) (i : ℕ) → (IsIn i places → ⊥) → get_or (marked places mark marks) i false ≡ get_or marks i false
marked_out [] mark marks i none = refl
marked_out (p ∷ places) mark marks i none = marked_out places mark (set marks p mark) i (λ h. none (inr h)) ∙ get_or-set_other marks p i mark false (λ e. none (inl (sym e)))

-- the marks of the first groups stand
pub record AreMarked (rows others : List (List Datum)) (groups : ℕ) (marks : List Bool) : Type 0 where
  pub all : length marks ≡ length rows
  pub each : (i k : ℕ) → i < length rows → k < groups → get_or rows i [] ≡ get_or (keys_of rows) k [] → get_or marks i false ≡ is_row_among others (get_or rows i [])

module _ (rows others : List (List Datum)) where
  pub none_marked : (marks : List Bool) → length marks ≡ length rows → AreMarked rows others 0 marks
  none_marked marks long = record { all = long; each = λ i k p q e. absurd (omega arith) }

  pub group_marked : (group : ℕ) (found : Bool) (marks : List Bool) → AreMarked rows others group marks → found ≡ is_row_among others (get_or (keys_of rows) group [])
      → AreMarked rows others (group + 1) (marked (positions_of rows (get_or (keys_of rows) group [])) found marks)
  group_marked group found marks before is =
      let key = get_or (keys_of rows) group [] in
      let places = positions_of rows key in
      let long = before.all in
      record {
        all = length_marked places found marks ∙ before.all;
        each = λ i k p q e. elim (cases_Bool (same_row (get_or rows i []) key)) [
          | inl t ↦ marked_in places found marks i (omega arith) (in_positions rows key i p t) ∙ is ∙ ap (is_row_among others) (sym (rows_equal (get_or rows i []) key t))
          | inr f ↦ marked_out places found marks i (λ h. false≢true (sym f ∙ (in_positions_back rows key i h).1))
              ∙ elim (cases_lt k group) [
                | inl r ↦ before.each i k p r e
                | inr r ↦ (let same : k ≡ group = omega arith in absurd (false≢true (sym f ∙ same_from_equal (get_or rows i []) key (e ∙ ap (λ k. get_or (keys_of rows) k []) same))))
              ]
        ];
      }

  -- the rows of a group have marks
  pub marked_within : (group : ℕ) (marks : List Bool) → AreMarked rows others group marks → All (λ i. i < length marks) (positions_of rows (get_or (keys_of rows) group []))
  marked_within group marks m k d p =
      let key = get_or (keys_of rows) group [] in
      let long = m.all in
      let inside = (in_positions_back rows key (get_or (positions_of rows key) k d) (in_at (positions_of rows key) k d p)).0 in
      omega arith

  -- each row is of a group
  pub all_marked : (groups : ℕ) (marks : List Bool) → length (keys_of rows) ≤ groups → AreMarked rows others groups marks → marks ≡ map (is_row_among others) rows
  all_marked groups marks end m =
      let many = m.all in
      ext_get_or false marks (map (is_row_among others) rows) (m.all ∙ sym (length-map rows (is_row_among others))) (λ i p.
      let q : i < length rows = omega arith in
      let r = place_of (keys_of rows) (get_or rows i []) (in_keys rows (get_or rows i []) (in_at rows i [] q)) in
      let inside = r.1 in
      m.each i r.0 q (omega arith) (sym (r.2 [])) ∙ sym (get_or-map (is_row_among others) rows i [] false q))
