-- Rows in the order of their keys, over a line.
use Rattle.std.proofs.Common.{◌≡◌, ◌≢◌, ℕ, suc, ◌+◌, ◌-◌, ◌<◌, ◌≤◌, ◌&&◌, Bool, true, false, cond, ltb, nat_lt, List, [], ◌++◌, length, get_or, set, take, drop, Option, Some, None, refl, ap, sym, subst, ◌∙◌, arith, inl, inr}
use Rattle.std.specs.List.{insert, remove}
use Rattle.std.specs.declared.cmp.Ordering.{Ordering}
use Rattle.std.specs.declared.cmp.Ordering.TheVariants.{Less, Equal, Greater}
use Rattle.std.specs.Ordering.{is_eq, ordering_reverse}
use Rattle.std.proofs.lemmas.Bool.{cases_eq, cases_lt, eq-eqb, le-ltb, lt-ltb, ltb-true, ne_eqb}
use Rattle.std.proofs.lemmas.List.Edits.{get_or-remove_above, get_or-remove_below, length-remove}
use Rattle.mk_value.specs.Data.{Datum}
use Rattle.live.specs.Placing.{closed, closed_by}
use Rattle.live.proofs.Picks.{closed_above, closed_below}
use Rattle.mapped.specs.Keys.{AscendByKey, IsLower, has_key, key_cmp, row_to_key}
use Rattle.mapped.proofs.Prefixes.{key_cmp_total}
use Rattle.mapped.proofs.Putting.{insert_ascends, inserted, replaced}
use Rattle.row_edits.specs.Edits.{edited_by}
use Rattle.keyed_views.specs.Keyed.{edits_of, moved_to, put_ordered, set_ordered}
use Rattle.keyed_views.specs.declared.keyed.KeyedEdit.TheVariants.{Change, Move}
use Rattle.keyed_views.proofs.Hashing.{apart_there, set_again, set_apart, set_gone}

-- rows in order, of which those before a place are less than a row, and the others greater
pub record IsParted (count : ℕ) (row : List Datum) (t : ℕ) (xs : List (List Datum)) : Type 0 where
  pub up : AscendByKey count xs
  pub within : t ≤ length xs
  pub front : (i : ℕ) → i < t → i < length xs → key_cmp (take count (get_or xs i [])) (take count row) ≡ Less
  pub rest : (j : ℕ) → t ≤ j → j < length xs → key_cmp (take count row) (take count (get_or xs j [])) ≡ Less

parted_insert : (count : ℕ) (row : List Datum) (t : ℕ) (xs : List (List Datum)) → IsParted count row t xs → AscendByKey count (insert xs t row)
parted_insert count row t xs p = insert_ascends count t xs row p.up p.front p.within p.rest

-- one of them goes
module _ (count : ℕ) (xs : List (List Datum)) (j : ℕ) (inside : j < length xs) where
  record IsLeft (i m : ℕ) : Type 0 where
    same : (d : List Datum) → get_or (remove xs j) i d ≡ get_or xs m d
    within : m < length xs
    low : i < j → m ≡ i
    high : j ≤ i → m ≡ i + 1

  left : (i : ℕ) → i < length (remove xs j) → (m : ℕ) × IsLeft i m
  left i p =
      let n = length-remove xs j inside in
      elim (cases_lt i j) [
        | inl lt ↦ (i, record { same = λ d. get_or-remove_below xs j d i lt inside; within = omega arith; low = λ q. refl; high = λ q. absurd (omega arith) })
        | inr ge ↦ (i + 1, record { same = λ d. get_or-remove_above xs j d i ge inside; within = omega arith; low = λ q. absurd (omega arith); high = λ q. refl })
      ]

  order : (i k : ℕ) → i < k → (m n : ℕ) → IsLeft i m → IsLeft k n → m < n
  order i k p m n a b = elim (cases_lt i j) [
    | inl lt ↦
        let e = a.low lt in
        elim (cases_lt k j) [ inl lk ↦ let f = b.low lk in omega arith | inr gk ↦ let f = b.high gk in omega arith ]
    | inr ge ↦ let e = a.high ge in let f = b.high (omega arith) in omega arith
  ]

  pub removed_up : AscendByKey count xs → AscendByKey count (remove xs j)
  removed_up up i k d p q =
      let a = left i (omega arith) in
      let b = left k q in
      ap (λ r. key_cmp (take count r) (take count (get_or (remove xs j) k d))) (a.1.same d) ∙ ap (λ r. key_cmp (take count (get_or xs a.0 d)) (take count r)) (b.1.same d)
      ∙ up a.0 b.0 d (order i k p a.0 b.0 a.1 b.1) b.1.within

  parted_by : (row : List Datum) (t u : ℕ) → IsParted count row t xs → u ≤ length (remove xs j) → ((i : ℕ) → i < u → (m : ℕ) → IsLeft i m → m < t) → ((i : ℕ) → u ≤ i → (m : ℕ) → IsLeft i m → t ≤ m) → IsParted count row u (remove xs j)
  parted_by row t u p within before behind = record {
    up = removed_up p.up;
    within = within;
    front = λ i q r. let a = left i r in ap (λ x. key_cmp (take count x) (take count row)) (a.1.same []) ∙ p.front a.0 (before i q a.0 a.1) a.1.within;
    rest = λ i q r. let a = left i r in ap (λ x. key_cmp (take count row) (take count x)) (a.1.same []) ∙ p.rest a.0 (behind i q a.0 a.1) a.1.within;
  }

  pub parted_removed : (row : List Datum) (t : ℕ) → IsParted count row t xs → IsParted count row (cond (ltb j t) (t - 1) t) (remove xs j)
  parted_removed row t p =
      let n = length-remove xs j inside in
      let w = p.within in
      elim (cases_lt j t) [
        | inl lt ↦
            subst (λ b. IsParted count row (cond b (t - 1) t) (remove xs j)) (sym (lt-ltb j t lt))
            (parted_by row t (t - 1) p (omega arith)
            (λ i q m a. elim (cases_lt i j) [ inl li ↦ let e = a.low li in omega arith | inr gi ↦ let e = a.high gi in omega arith ])
            (λ i q m a. let e = a.high (omega arith) in omega arith))
        | inr ge ↦
            subst (λ b. IsParted count row (cond b (t - 1) t) (remove xs j)) (sym (le-ltb j t ge))
            (parted_by row t t p (omega arith)
            (λ i q m a. let e = a.low (omega arith) in omega arith)
            (λ i q m a. elim (cases_lt i j) [ inl li ↦ let e = a.low li in omega arith | inr gi ↦ let e = a.high gi in omega arith ]))
      ]

above_from : (o : Ordering) → o ≢ Less → is_eq o ≡ false → ordering_reverse o ≡ Less
above_from Less f e = absurd (f refl)
above_from Equal f e = cc
above_from Greater f e = refl

equal_from : (o : Ordering) → is_eq o ≡ true → o ≡ Equal
equal_from Less e = cc
equal_from Equal e = refl
equal_from Greater e = cc

both_true : (a b : Bool) → (a && b) ≡ true → (a ≡ true) × (b ≡ true)
both_true true true e = (refl, refl)
both_true true false e = cc
both_true false b e = cc

second_false : (a b : Bool) → a ≡ true → (a && b) ≡ false → b ≡ false
second_false true b e f = f
second_false false b e f = cc

module _ (count : ℕ) (rows : List (List Datum)) (key row : List Datum) (up : AscendByKey count rows) (full : length key ≡ count) (is : take count row ≡ key) (low : ℕ) (h : IsLower key rows low) where
  stands : (r : List Datum) → key_cmp (take count r) (take count row) ≡ row_to_key r key
  stands r = ap (key_cmp (take count r)) is ∙ ap (λ n. key_cmp (take n r) key) (sym full)

  -- no row has the key
  parted_at : has_key key rows low ≡ false → IsParted count row low rows
  parted_at e = record {
    up = up;
    within = h.within;
    front = λ i p q. stands (get_or rows i []) ∙ h.below i p;
    rest = λ j p q.
        let there : low < length rows = omega arith in
        let no_tie = second_false (nat_lt low (length rows)) (is_eq (row_to_key (get_or rows low []) key)) (lt-ltb low (length rows) there) e in
        let first : key_cmp (take count row) (take count (get_or rows low [])) ≡ Less =
        key_cmp_total.antisymm (take count row) (take count (get_or rows low [])) ∙ ap ordering_reverse (stands (get_or rows low [])) ∙ above_from (row_to_key (get_or rows low []) key) (h.from low (omega arith) there) no_tie in
        elim (cases_lt low j) [
          | inl far ↦ key_cmp_total.trans (take count row) (take count (get_or rows low [])) (take count (get_or rows j [])) first (up low j [] far q)
          | inr near ↦ ap (λ k. key_cmp (take count row) (take count (get_or rows k []))) (let same : j ≡ low = omega arith in same) ∙ first
        ];
  }

  -- one has it, and goes
  module _ (e : has_key key rows low ≡ true) where
    there : low < length rows
    there = ltb-true low (length rows) (both_true (nat_lt low (length rows)) (is_eq (row_to_key (get_or rows low []) key)) e).0

    tie : key_cmp (take count (get_or rows low [])) (take count row) ≡ Equal
    tie = stands (get_or rows low []) ∙ equal_from (row_to_key (get_or rows low []) key) (both_true (nat_lt low (length rows)) (is_eq (row_to_key (get_or rows low []) key)) e).1

    parted_past : IsParted count row low (remove rows low)
    parted_past = record {
      up = removed_up count rows low there up;
      within = (let p = there in let n = length-remove rows low p in omega arith);
      front = λ i p q. ap (λ x. key_cmp (take count x) (take count row)) (get_or-remove_below rows low [] i p there) ∙ stands (get_or rows i []) ∙ h.below i p;
      rest = λ j p q.
          let at = there in
          let n = length-remove rows low at in
          ap (λ x. key_cmp (take count row) (take count x)) (get_or-remove_above rows low [] j p there)
          ∙ sym (key_cmp_total.congr (take count (get_or rows low [])) (take count row) (take count (get_or rows (j + 1) [])) tie) ∙ up low (j + 1) [] (omega arith) (omega arith);
    }

  -- a row is put
  pub put_ascends : (has : Bool) → has ≡ has_key key rows low → AscendByKey count (edited_by row (edits_of (put_ordered low has)) rows)
  put_ascends false e = inserted count rows key row low up full is h (sym e)
  put_ascends true e =
      let p = there (sym e) in
      subst (AscendByKey count) (set_again rows low row p ∙ ap (λ n. insert (take low rows ++ drop n rows) low row) (let f : suc low ≡ low + 1 = omega arith in f)) (replaced count rows key row low up full is h (sym e))

  -- a row is given the key, and comes among the others
  module _ (at : ℕ) (inside : at < length rows) where
    moved_ascends : (others : List (List Datum)) (other : Option ℕ) (to : ℕ) → IsParted count row to others
        → (to ≡ closed_by other at → edited_by row (edits_of (Change at other)) rows ≡ insert others to row) → edited_by row (edits_of (Move at other to)) rows ≡ insert others to row
        → AscendByKey count (edited_by row (edits_of (moved_to at other to)) rows)
    moved_ascends others other to p stays moves = elim (cases_eq to (closed_by other at)) [
      | inl same ↦
          subst (λ b. AscendByKey count (edited_by row (edits_of (cond b (Change at other) (Move at other to))) rows)) (sym (eq-eqb to (closed_by other at) same))
          (subst (AscendByKey count) (sym (stays same)) (parted_insert count row to others p))
      | inr apart ↦
          subst (λ b. AscendByKey count (edited_by row (edits_of (cond b (Change at other) (Move at other to))) rows)) (sym (ne_eqb to (closed_by other at) apart))
          (subst (AscendByKey count) (sym moves) (parted_insert count row to others p))
    ]

    alone : has_key key rows low ≡ false → AscendByKey count (edited_by row (edits_of (moved_to at None (cond (ltb at low) (low - 1) low))) rows)
    alone e =
        moved_ascends (remove rows at) None (cond (ltb at low) (low - 1) low) (parted_removed count rows at inside row low (parted_at e))
        (λ same. set_again rows at row inside ∙ ap (λ n. insert (remove rows at) n row) (sym same))
        (ap (λ ys. insert ys (cond (ltb at low) (low - 1) low) row) (set_gone rows at row))

    beside : (e : has_key key rows low ≡ true) → low ≢ at → AscendByKey count (edited_by row (edits_of (moved_to at (Some low) (cond (ltb at low) (low - 1) low))) rows)
    beside e ne =
        let p = there e in
        let others : List (List Datum) = remove (remove rows low) (closed low at) in
        let within = apart_there rows row at low inside p ne in
        let parted : IsParted count row (cond (ltb at low) (low - 1) low) others =
        subst (λ b. IsParted count row (cond b (low - 1) low) others) same_side (parted_removed count (remove rows low) (closed low at) within row low (parted_past e)) in
        let changed : take low (set rows at row) ++ drop (low + 1) (set rows at row) ≡ set (remove rows low) (closed low at) row =
        ap (λ n. take low (set rows at row) ++ drop n (set rows at row)) (let f : low + 1 ≡ suc low = omega arith in f) ∙ sym (set_apart rows row at low inside p ne) in
        moved_ascends others (Some low) (cond (ltb at low) (low - 1) low) parted
        (λ same. changed ∙ set_again (remove rows low) (closed low at) row within ∙ ap (λ n. insert others n row) (sym same))
        (ap (λ ys. insert (take (closed low at) ys ++ drop (closed low at + 1) ys) (cond (ltb at low) (low - 1) low) row) changed
        ∙ ap (λ ys. insert ys (cond (ltb at low) (low - 1) low) row) (set_gone (remove rows low) (closed low at) row))
      where
        same_side : ltb (closed low at) low ≡ ltb at low
        same_side = elim (cases_lt at low) [
          | inl lt ↦ ap (λ n. ltb n low) (closed_below low at lt)
          | inr ge ↦ let c = closed_above low at (omega arith) in le-ltb (closed low at) low (omega arith) ∙ sym (le-ltb at low ge)
        ]

    pub set_ascends : (has : Bool) → has ≡ has_key key rows low → AscendByKey count (edited_by row (edits_of (set_ordered at low has)) rows)
    set_ascends false e = alone (sym e)
    set_ascends true e = elim (cases_eq low at) [
      | inl same ↦
          subst (λ b. AscendByKey count (edited_by row (edits_of (cond b (Change at None) (moved_to at (Some low) (cond (ltb at low) (low - 1) low)))) rows)) (sym (eq-eqb low at same))
          (subst (λ n. AscendByKey count (set rows n row)) same (replaced count rows key row low up full is h (sym e)))
      | inr apart ↦
          subst (λ b. AscendByKey count (edited_by row (edits_of (cond b (Change at None) (moved_to at (Some low) (cond (ltb at low) (low - 1) low)))) rows)) (sym (ne_eqb low at apart))
          (beside (sym e) apart)
    ]
