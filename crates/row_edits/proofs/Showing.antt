-- The rows between two events, as a table shows them.
use Rattle.std.proofs.Common.{◌≡◌, ℕ, ◌<◌, ◌≤◌, Bool, true, false, ◌||◌, ◌+◌, List, [], ◌∷◌, ◌++◌, length, get_or, take, drop, Option, Some, None, MatchOption, refl, ap, sym, subst, ◌∙◌, arith, inl, inr}
use Rattle.std.specs.List.{list_any}
use Rattle.std.proofs.lemmas.Bool.{cases_lt, false≢true, le-ltb, lt-ltb}
use Rattle.std.proofs.lemmas.List.{take-append-drop, take_more}
use Rattle.std.proofs.lemmas.List.Folds.{list_any-append, list_any_at}
use Rattle.mk_value.specs.Data.{Datum, AreRowsOf}
use Rattle.mk_value.specs.Heading.{Attribute}
use Rattle.mk_value.specs.Limits.{max_rows}
use Rattle.row_edits.specs.declared.edit.RowEdit.{RowEdit}
use Rattle.row_edits.specs.Edits.{AreInRange, IsInRange, bring, brings, edited_by, size_after, size_by}
use Rattle.row_edits.specs.declared.edit.RowEdit.TheVariants.{Insert, Remove, Change}
use Rattle.row_edits.specs.Events.{begun, count_of}
use Rattle.row_edits.specs.Lines.{IsBetween, IsLine, edit_at, row_at, rows_between}
use Rattle.row_edits.specs.Origins.{ComesFrom, StandAfter, StandsAfter, stood_at}
use Rattle.row_edits.proofs.Editing.{IsFrom, edited_by_whole, edited_last, few_by, is_from, last_range, length_edited, length_edited_by, range_front, range_last, stood_within}
use Rattle.row_edits.proofs.Eventing.{begun_range}

module _ (whole : List RowEdit) (part : RowEdit) (home : ℕ) (before after : List (List Datum)) (b : IsBetween whole part home before after) where
  came : List Datum
  came = row_at after home

  parts : AreInRange whole (length before) × IsInRange part (size_by whole (length before))
  parts = range_last whole part (length before) b.in_range

  pub between_whole : AreInRange whole (length before)
  between_whole = parts.0

  pub between_part : IsInRange part (size_by whole (length before))
  between_part = parts.1

  long : length (edited_by (row_at after home) whole before) ≡ size_by whole (length before)
  long = length_edited_by (row_at after home) whole before parts.0

  pub between_size : size_after part (size_by whole (length before)) ≡ length (rows_between whole part home before after)
  between_size = sym (length_edited (row_at after home) part (edited_by (row_at after home) whole before) (subst (IsInRange part) (sym long) parts.1) ∙ ap (size_after part) long)

  pub between_rows : (schema : List Attribute) → AreRowsOf before schema → AreRowsOf after schema → AreRowsOf (rows_between whole part home before after) schema
  between_rows schema one two =
      subst (λ rows. AreRowsOf rows schema) (edited_last (row_at after home) whole part before)
      (edited_by_whole (row_at after home) (whole ++ part ∷ []) before schema b.in_range (λ e. two.whole home [] (b.there e)) one)

  either : (x y : Bool) → y ≡ true → (x || y) ≡ true
  either true y e = refl
  either false y e = e

  front : (x y : Bool) → x ≡ true → (x || y) ≡ true
  front x y e = ap (λ z. z || y) e

  brought_last : brings part ≡ true → bring (whole ++ part ∷ []) ≡ true
  brought_last e = list_any-append brings whole (part ∷ []) ∙ either (bring whole) (brings part || false) (front (brings part) false e)

  brought_before : bring whole ≡ true → bring (whole ++ part ∷ []) ≡ true
  brought_before e = list_any-append brings whole (part ∷ []) ∙ front (bring whole) (bring (part ∷ [])) e

  module _ (few : length before ≤ max_rows) (row : ℕ) (p : row < length (rows_between whole part home before after)) where
    q : row < size_after part (size_by whole (length before))
    q = subst (λ n. row < n) (sym between_size) p

    pub part_stands : StandsAfter part row (size_by whole (length before))
    part_stands = record { in_range = parts.1; few = few_by whole (length before) parts.0 few; there = q }

    step : IsFrom part row (stood_at part row) (row_at after home) (edited_by (row_at after home) whole before)
    step = is_from (row_at after home) part (edited_by (row_at after home) whole before) row (subst (IsInRange part) (sym long) parts.1) (subst (λ n. row < size_after part n) (sym long) q)

    pub came_last : stood_at part row ≡ None → (home < length after) × (get_or (rows_between whole part home before after) row [] ≡ row_at after home)
    came_last is =
        let g = subst (λ o. IsFrom part row o (row_at after home) (edited_by (row_at after home) whole before)) is step in
        (b.there (brought_last g.0), g.1)

    module _ (at : ℕ) (is : stood_at part row ≡ Some at) where
      pub whole_stands : StandAfter whole at (length before)
      whole_stands = record { in_range = parts.0; few = few; there = stood_within part row at (size_by whole (length before)) parts.1 q is }

      pub came_before : (found : Option ℕ) → ComesFrom whole at found (row_at after home) before
          → MatchOption found ((home < length after) × (get_or (rows_between whole part home before after) row [] ≡ row_at after home))
          (λ i. (i < length before) × (get_or (rows_between whole part home before after) row [] ≡ get_or before i []))
      came_before found h =
          let g = subst (λ o. IsFrom part row o (row_at after home) (edited_by (row_at after home) whole before)) is step in
          by_found found h g.1
        where
          by_found : (found : Option ℕ) → ComesFrom whole at found (row_at after home) before → get_or (rows_between whole part home before after) row [] ≡ get_or (edited_by (row_at after home) whole before) at []
              → MatchOption found ((home < length after) × (get_or (rows_between whole part home before after) row [] ≡ row_at after home))
              (λ i. (i < length before) × (get_or (rows_between whole part home before after) row [] ≡ get_or before i []))
          by_found None h e = (b.there (brought_before h.0), e ∙ h.1)
          by_found (Some i) h e = (h.0, e ∙ h.1)

-- a line, as far as some of its events
module _ (edits : List RowEdit) (home : ℕ) (before after : List (List Datum)) (line : IsLine edits home before after) (edit : ℕ) (inside : edit < length edits) where
  pub next_edits : take (edit + 1) edits ≡ take edit edits ++ edit_at edits edit ∷ []
  next_edits = take_more edits edit (Insert 0 0) inside

  all_range : AreInRange (take edit edits) (length before) × IsInRange (edit_at edits edit) (size_by (take edit edits) (length before))
  all_range =
      range_last (take edit edits) (edit_at edits edit) (length before)
      (subst (λ es. AreInRange es (length before)) next_edits (range_front edits (edit + 1) (length before) line.in_range))

  pub whole_range : AreInRange (take edit edits) (length before)
  whole_range = all_range.0

  pub edit_range : IsInRange (edit_at edits edit) (size_by (take edit edits) (length before))
  edit_range = all_range.1

  pub some_between : (events : ℕ) → events ≤ count_of (edit_at edits edit) → IsBetween (take edit edits) (begun events (edit_at edits edit)) home before after
  some_between events le = record {
    in_range = last_range (take edit edits) (begun events (edit_at edits edit)) (length before) all_range.0 (begun_range (edit_at edits edit) events (size_by (take edit edits) (length before)) all_range.1 le);
    there = λ b. line.there (brought (list_any brings (take edit edits)) (brings (begun events (edit_at edits edit))) (sym (list_any-append brings (take edit edits) (begun events (edit_at edits edit) ∷ [])) ∙ b) in_front here);
  }
    where
      in_front : list_any brings (take edit edits) ≡ true → bring edits ≡ true
      in_front e = ap (list_any brings) (sym (take-append-drop edit edits)) ∙ list_any-append brings (take edit edits) (drop edit edits) ∙ ap (λ b. b || list_any brings (drop edit edits)) e

      begun_brings : (e : RowEdit) → events ≤ count_of e → brings (begun events e) ≡ true → brings e ≡ true
      begun_brings (Insert at count) le h = elim (cases_lt 0 events) [
        | inl some ↦ lt-ltb 0 count (omega arith)
        | inr none ↦ absurd (false≢true (sym (le-ltb 0 events none) ∙ h))
      ]
      begun_brings (Remove at count) le h = h
      begun_brings (Change at) le h = refl

      here : brings (begun events (edit_at edits edit)) ≡ true → bring edits ≡ true
      here e = list_any_at brings edits edit (Insert 0 0) inside (begun_brings (edit_at edits edit) le e)

      brought : (x y : Bool) → (x || (y || false)) ≡ true → (x ≡ true → bring edits ≡ true) → (y ≡ true → bring edits ≡ true) → bring edits ≡ true
      brought true y h f g = f refl
      brought false true h f g = g refl
      brought false false h f g = cc
