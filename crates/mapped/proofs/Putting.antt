-- Rows in the order of their keys stay so where one is put in by its key.
use Rattle.std.proofs.Common.{◌≡◌, ◌≢◌, ℕ, ◌+◌, ◌-◌, ◌<◌, ◌≤◌, ◌&&◌, Bool, true, false, nat_lt, List, [], length, get_or, set, take, refl, ap, sym, ◌∙◌, arith, inl, inr}
use Rattle.std.specs.List.{insert}
use Rattle.std.specs.declared.cmp.Ordering.{Ordering}
use Rattle.std.specs.declared.cmp.Ordering.TheVariants.{Less, Equal, Greater}
use Rattle.std.specs.Ordering.{is_eq, ordering_reverse}
use Rattle.std.proofs.lemmas.Bool.{cases_lt, cases_eq, ltb-true, lt-ltb}
use Rattle.std.proofs.lemmas.List.{get_or_default, get_or-set_same, get_or-set_other, length-set}
use Rattle.std.proofs.lemmas.List.Edits.{length-insert, get_or-insert_below, get_or-insert_at, get_or-insert_above}
use Rattle.mk_value.specs.Data.{Datum}
use Rattle.mapped.specs.Keys.{key_cmp, row_to_key, AscendByKey, IsLower, has_key}
use Rattle.mapped.proofs.Prefixes.{key_cmp_total}

-- the greater of two, seen from the other side
above_from : (o : Ordering) → o ≢ Less → is_eq o ≡ false → ordering_reverse o ≡ Less
above_from Less f e = absurd (f refl)
above_from Equal f e = cc
above_from Greater f e = refl

equal_from : (o : Ordering) → is_eq o ≡ true → o ≡ Equal
equal_from Less e = cc
equal_from Equal e = refl
equal_from Greater e = cc

module _ (count at : ℕ) (rows : List (List Datum)) (row : List Datum) (up : AscendByKey count rows)
    (front : (i : ℕ) → i < at → i < length rows → key_cmp (take count (get_or rows i [])) (take count row) ≡ Less) where
  abbrev cmp : List Datum → List Datum → Ordering
  cmp a b = key_cmp (take count a) (take count b)

  front_at : (i : ℕ) (d : List Datum) → i < at → i < length rows → cmp (get_or rows i d) row ≡ Less
  front_at i d p q = ap (λ r. cmp r row) (get_or_default rows i d [] q) ∙ front i p q

  -- before those that are greater
  module _ (within : at ≤ length rows) (rest : (j : ℕ) → at ≤ j → j < length rows → key_cmp (take count row) (take count (get_or rows j [])) ≡ Less) where
    pub insert_ascends : AscendByKey count (insert rows at row)
    insert_ascends i j d p q =
        let long = length-insert rows at row within in
        let behind : (k : ℕ) → at ≤ k → get_or (insert rows at row) (k + 1) d ≡ get_or rows k d = λ k le. get_or-insert_above rows at row d k le within in
        elim (cases_lt i at) [
          | inl before ↦
              let one = get_or-insert_below rows at row d i before within in
              elim (cases_lt j at) [
                | inl both ↦
                    ap (λ r. cmp r (get_or (insert rows at row) j d)) one ∙ ap (cmp (get_or rows i d)) (get_or-insert_below rows at row d j both within) ∙ up i j d p (omega arith)
                | inr past ↦ elim (cases_eq j at) [
                  | inl here ↦
                      ap (λ r. cmp r (get_or (insert rows at row) j d)) one ∙ ap (cmp (get_or rows i d)) (ap (λ k. get_or (insert rows at row) k d) here ∙ get_or-insert_at rows at row d within)
                      ∙ front_at i d before (omega arith)
                  | inr far ↦
                      let k : ℕ = j - 1 in
                      let same : j ≡ k + 1 = omega arith in
                      ap (λ r. cmp r (get_or (insert rows at row) j d)) one ∙ ap (cmp (get_or rows i d)) (ap (λ k. get_or (insert rows at row) k d) same ∙ behind k (omega arith)) ∙ up i k d (omega arith) (omega arith)
                ]
              ]
          | inr past ↦
              let k : ℕ = j - 1 in
              let same : j ≡ k + 1 = omega arith in
              let two = ap (λ k. get_or (insert rows at row) k d) same ∙ behind k (omega arith) in
              elim (cases_eq i at) [
                | inl here ↦
                    ap (λ r. cmp r (get_or (insert rows at row) j d)) (ap (λ k. get_or (insert rows at row) k d) here ∙ get_or-insert_at rows at row d within)
                    ∙ ap (cmp row) (two ∙ get_or_default rows k d [] (omega arith)) ∙ rest k (omega arith) (omega arith)
                | inr far ↦
                    let l : ℕ = i - 1 in
                    let even : i ≡ l + 1 = omega arith in
                    ap (λ r. cmp r (get_or (insert rows at row) j d)) (ap (λ k. get_or (insert rows at row) k d) even ∙ behind l (omega arith)) ∙ ap (cmp (get_or rows l d)) two ∙ up l k d (omega arith) (omega arith)
              ]
        ]

  -- in the place of one that ties
  module _ (there : at < length rows) (rest : (j : ℕ) → at < j → j < length rows → key_cmp (take count row) (take count (get_or rows j [])) ≡ Less) where
    pub set_ascends : AscendByKey count (set rows at row)
    set_ascends i j d p q =
        let long = length-set rows at row in
        let kept : (k : ℕ) → k ≢ at → get_or (set rows at row) k d ≡ get_or rows k d = λ k ne. get_or-set_other rows at k row d ne in
        let come : get_or (set rows at row) at d ≡ row = get_or-set_same rows at row d there in
        elim (cases_eq i at) [
          | inl here ↦
              let ne : j ≢ at = λ s. absurd (omega arith) in
              ap (λ r. cmp r (get_or (set rows at row) j d)) (ap (λ k. get_or (set rows at row) k d) here ∙ come)
              ∙ ap (cmp row) (kept j ne ∙ get_or_default rows j d [] (omega arith)) ∙ rest j (omega arith) (omega arith)
          | inr apart ↦ elim (cases_eq j at) [
            | inl here ↦
                ap (λ r. cmp r (get_or (set rows at row) j d)) (kept i apart) ∙ ap (cmp (get_or rows i d)) (ap (λ k. get_or (set rows at row) k d) here ∙ come)
                ∙ front_at i d (omega arith) (omega arith)
            | inr far ↦ ap (λ r. cmp r (get_or (set rows at row) j d)) (kept i apart) ∙ ap (cmp (get_or rows i d)) (kept j far) ∙ up i j d p (omega arith)
          ]
        ]

both_true : (a b : Bool) → (a && b) ≡ true → (a ≡ true) × (b ≡ true)
both_true true true e = (refl, refl)
both_true true false e = cc
both_true false b e = cc

second_false : (a b : Bool) → a ≡ true → (a && b) ≡ false → b ≡ false
second_false true b e f = f
second_false false b e f = cc

-- a row of a key, put where the rows that are less end
module _ (count : ℕ) (rows : List (List Datum)) (key row : List Datum) (at : ℕ) (up : AscendByKey count rows) (full : length key ≡ count) (is : take count row ≡ key) (h : IsLower key rows at) where
  -- how a row stands to the key is how it stands to the row
  stands : (r : List Datum) → key_cmp (take count r) (take count row) ≡ row_to_key r key
  stands r = ap (key_cmp (take count r)) is ∙ ap (λ n. key_cmp (take n r) key) (sym full)

  front : (i : ℕ) → i < at → i < length rows → key_cmp (take count (get_or rows i [])) (take count row) ≡ Less
  front i p q = stands (get_or rows i []) ∙ h.below i p

  pub replaced : has_key key rows at ≡ true → AscendByKey count (set rows at row)
  replaced e =
      let both = both_true (nat_lt at (length rows)) (is_eq (row_to_key (get_or rows at []) key)) e in
      let there : at < length rows = ltb-true at (length rows) both.0 in
      let tie : key_cmp (take count (get_or rows at [])) (take count row) ≡ Equal = stands (get_or rows at []) ∙ equal_from (row_to_key (get_or rows at []) key) both.1 in
      set_ascends count at rows row up front there (λ j p q. sym (key_cmp_total.congr (take count (get_or rows at [])) (take count row) (take count (get_or rows j [])) tie) ∙ up at j [] p q)

  pub inserted : has_key key rows at ≡ false → AscendByKey count (insert rows at row)
  inserted e = insert_ascends count at rows row up front h.within (λ j p q.
      let there : at < length rows = omega arith in
      let no_tie = second_false (nat_lt at (length rows)) (is_eq (row_to_key (get_or rows at []) key)) (lt-ltb at (length rows) there) e in
      let first : key_cmp (take count row) (take count (get_or rows at [])) ≡ Less =
      key_cmp_total.antisymm (take count row) (take count (get_or rows at [])) ∙ ap ordering_reverse (stands (get_or rows at []))
      ∙ above_from (row_to_key (get_or rows at []) key) (h.from at (omega arith) there) no_tie in
      elim (cases_lt at j) [
        | inl far ↦ key_cmp_total.trans (take count row) (take count (get_or rows at [])) (take count (get_or rows j [])) first (up at j [] far q)
        | inr near ↦ ap (λ k. key_cmp (take count row) (take count (get_or rows k []))) (let same : j ≡ at = omega arith in same) ∙ first
      ])
