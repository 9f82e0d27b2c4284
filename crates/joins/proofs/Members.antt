-- Rows that an index of whole rows has.
use Rattle.std.proofs.Common.{◌≡◌, ℕ, ◌<◌, ◌≤◌, Bool, true, false, not, cond, List, [], ◌∷◌, length, get_or, map, All, refl, ap, sym, ◌∙◌, arith}
use Rattle.std.specs.List.{filter}
use Rattle.std.proofs.Math.Bool.{beq}
use Rattle.std.proofs.lemmas.List.{get_or-map, length-map}
use Rattle.std.proofs.lemmas.List.Elements.{All-filter, All-head, All-tail, All-weaker}
use Rattle.mk_value.specs.Data.{Datum}
use Rattle.relations.specs.Equality.{is_row_among}
use Rattle.relations.specs.Positions.{numbers, passing}
use Rattle.relations.specs.Rows.{rows_at}
use Rattle.relations.proofs.Numbers.{numbers_below}
use Rattle.derived.specs.Operators.{distinct}
use Rattle.grouping.specs.Index.{first_positions}
use Rattle.grouping.proofs.DistinctRows.{less_few}
use Rattle.grouping.proofs.Positions.{firsts_few, firsts_in, map_filter, rows_at_firsts}
use Rattle.joins.specs.Sets.{is_kept, is_wanted}

pub left_out : (among : Bool) (rows : List (List Datum)) (row : List Datum) (has : Bool) → has ≡ is_row_among rows row → not (beq has among) ≡ true → is_kept among rows row ≡ false
left_out true rows row true h p = absurd (let none : ◌≡◌ {A = Bool} false true = p in cc)
left_out true rows row false h p = sym h
left_out false rows row true h p = ap not (sym h)
left_out false rows row false h p = absurd (let none : ◌≡◌ {A = Bool} false true = p in cc)

pub taken_in : (among : Bool) (rows : List (List Datum)) (row : List Datum) (has : Bool) → has ≡ is_row_among rows row → not (beq has among) ≡ false → is_kept among rows row ≡ true
taken_in true rows row true h p = sym h
taken_in true rows row false h p = absurd (let none : ◌≡◌ {A = Bool} true false = p in cc)
taken_in false rows row true h p = absurd (let none : ◌≡◌ {A = Bool} true false = p in cc)
taken_in false rows row false h p = ap not (sym h)

-- the same of a mark
pub mark_left_out : (among mark : Bool) → not (beq mark among) ≡ true → is_wanted among mark ≡ false
mark_left_out true true p = absurd (let none : ◌≡◌ {A = Bool} false true = p in cc)
mark_left_out true false p = refl
mark_left_out false true p = refl
mark_left_out false false p = absurd (let none : ◌≡◌ {A = Bool} false true = p in cc)

pub mark_taken_in : (among mark : Bool) → not (beq mark among) ≡ false → is_wanted among mark ≡ true
mark_taken_in true true p = refl
mark_taken_in true false p = absurd (let none : ◌≡◌ {A = Bool} true false = p in cc)
mark_taken_in false true p = absurd (let none : ◌≡◌ {A = Bool} true false = p in cc)
mark_taken_in false false p = refl

wanted_is_kept : (among : Bool) (others : List (List Datum)) (row : List Datum) → is_wanted among (is_row_among others row) ≡ is_kept among others row
wanted_is_kept true others row = refl
wanted_is_kept false others row = refl

filter_same : (p q : ℕ → Bool) (xs : List ℕ) → All (λ x. p x ≡ q x) xs → filter p xs ≡ filter q xs
filter_same p q [] h = refl
filter_same p q (x ∷ xs) h =
    ap (λ b. cond b (x ∷ filter p xs) (filter p xs)) (All-head (λ x. p x ≡ q x) x xs h) ∙ ap (λ ys. cond (q x) (x ∷ ys) ys) (filter_same p q xs (All-tail (λ x. p x ≡ q x) x xs h))

-- where the marks say which rows are among others
module _ (others rows : List (List Datum)) where
  abbrev marks : List Bool
  marks = map (is_row_among others) rows

  mark_at : (i : ℕ) → i < length rows → get_or marks i false ≡ is_row_among others (get_or rows i [])
  mark_at i p = get_or-map (is_row_among others) rows i [] false p

  -- the places of those that are as wanted are the rows that are kept
  pub kept_by_marks : (among : Bool) → passing (is_wanted among) false marks ≡ passing (is_kept among others) [] rows
  kept_by_marks among =
      ap (λ n. filter (λ i. is_wanted among (get_or marks i false)) (numbers n)) (length-map rows (is_row_among others))
      ∙ filter_same (λ i. is_wanted among (get_or marks i false)) (λ i. is_kept among others (get_or rows i [])) (numbers (length rows))
      (All-weaker (λ i. i < length rows) (λ i. is_wanted among (get_or marks i false) ≡ is_kept among others (get_or rows i []))
      (λ i p. ap (is_wanted among) (mark_at i p) ∙ wanted_is_kept among others (get_or rows i [])) (numbers (length rows)) (numbers_below (length rows)))

  abbrev new_firsts : List ℕ
  new_firsts = filter (λ i. not (is_row_among others (get_or rows i []))) (first_positions rows)

  -- the first positions at which there is no mark are those of new rows
  pub unmarked_firsts : filter (λ i. not (get_or marks i false)) (first_positions rows) ≡ new_firsts
  unmarked_firsts =
      filter_same (λ i. not (get_or marks i false)) (λ i. not (is_row_among others (get_or rows i []))) (first_positions rows)
      (All-weaker (λ i. i < length rows) (λ i. not (get_or marks i false) ≡ not (is_row_among others (get_or rows i []))) (λ i p. ap not (mark_at i p)) (first_positions rows) (firsts_in rows))

  pub rows_at_new : rows_at rows new_firsts ≡ filter (is_kept false others) (distinct rows)
  rows_at_new =
      map_filter (λ i. get_or rows i []) (is_kept false others) (first_positions rows) ∙ ap (filter (is_kept false others)) (rows_at_firsts rows)

  pub new_few : length new_firsts ≤ length rows
  new_few =
      let some = less_few (λ i. not (is_row_among others (get_or rows i []))) (first_positions rows) in
      let all = firsts_few rows in
      omega arith

  pub new_in : All (λ i. i < length rows) new_firsts
  new_in = All-filter (λ i. not (is_row_among others (get_or rows i []))) (λ i. i < length rows) (first_positions rows) (firsts_in rows)
