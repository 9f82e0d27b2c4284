-- The rows of a line between its edits.
use Rattle.std.proofs.Common.{◌≡◌, ℕ, ◌+◌, ◌<◌, ◌≤◌, List, length, take, ap, sym, subst, ◌∙◌, arith}
use Rattle.mk_value.specs.Data.{Datum}
use Rattle.live.specs.Putting.{IsPlace}
use Rattle.live.specs.Watching.{IsTurn, root_turn}
use Rattle.live.proofs.Beginning.{begun_place, begun_turn}
use Rattle.mk_value.specs.Limits.{max_rows}
use Rattle.row_edits.specs.declared.edit.RowEdit.TheVariants.{Insert, Remove, Change}
use Rattle.row_edits.specs.declared.edit.RowEdit.{RowEdit}
use Rattle.row_edits.specs.Edits.{IsInRange, edited, edited_by, size_by}
use Rattle.row_edits.specs.Events.{count_of, event_of}
use Rattle.row_edits.specs.Lines.{IsLine, edit_at, row_at, rows_at_event, rows_between}
use Rattle.row_edits.proofs.Editing.{edited_last, few_by, length_edited_by}
use Rattle.row_edits.proofs.Eventing.{begun_all, begun_none}
use Rattle.row_edits.proofs.Showing.{edit_range, next_edits, whole_range}

pub same_shown : (w v : List RowEdit) (p q : RowEdit) (h i : ℕ) (b c a d : List (List Datum)) → w ≡ v → p ≡ q → h ≡ i → b ≡ c → a ≡ d → rows_between w p h b a ≡ rows_between v q i c d
same_shown w v p q h i b c a d e f g j k =
    ap (λ x. rows_between x p h b a) e ∙ ap (λ x. rows_between v x h b a) f ∙ ap (λ x. rows_between v q x b a) g ∙ ap (λ x. rows_between v q i x a) j ∙ ap (rows_between v q i c) k

count_small : (e : RowEdit) (size : ℕ) → IsInRange e size → size ≤ max_rows → count_of e ≤ max_rows
count_small (Insert at count) size h few = let f = h.1 in omega arith
count_small (Remove at count) size h few = omega arith
count_small (Change at) size h few = omega arith

module _ (edits : List RowEdit) (home : ℕ) (before after : List (List Datum)) (line : IsLine edits home before after) (edit : ℕ) (inside : edit < length edits) where
  abbrev row : List Datum
  row = row_at after home

  abbrev so_far : List (List Datum)
  so_far = edited_by row (take edit edits) before

  here : IsInRange (edit_at edits edit) (length so_far)
  here = subst (IsInRange (edit_at edits edit)) (sym (length_edited_by row (take edit edits) before (whole_range edits home before after line edit inside))) (edit_range edits home before after line edit inside)

  pub few_events : length before ≤ max_rows → count_of (edit_at edits edit) ≤ max_rows
  few_events few =
      count_small (edit_at edits edit) (size_by (take edit edits) (length before)) (edit_range edits home before after line edit inside)
      (few_by (take edit edits) (length before) (whole_range edits home before after line edit inside) few)

  pub event_turn : (k : ℕ) → k < count_of (edit_at edits edit) → IsTurn (root_turn (event_of (edit_at edits edit) k)) (rows_at_event edits home edit k before after) (rows_at_event edits home edit (k + 1) before after)
  event_turn k p = begun_turn (edit_at edits edit) k row so_far here p

  pub event_place : (k : ℕ) → k < count_of (edit_at edits edit) → IsPlace (event_of (edit_at edits edit) k) (length (rows_at_event edits home edit k before after))
  event_place k p = begun_place (edit_at edits edit) k row so_far here p

  pub rows_first : rows_at_event edits home edit 0 before after ≡ so_far
  rows_first = begun_none row (edit_at edits edit) so_far

  pub rows_last : rows_at_event edits home edit (count_of (edit_at edits edit)) before after ≡ edited_by row (take (edit + 1) edits) before
  rows_last =
      ap (λ e. edited row e so_far) (begun_all (edit_at edits edit)) ∙ sym (edited_last row (take edit edits) (edit_at edits edit) before)
      ∙ ap (λ es. edited_by row es before) (sym (next_edits edits home before after line edit inside))

  -- the edit may be made of the rows before it, and makes those after it of them
  pub edit_here : IsInRange (edit_at edits edit) (length (rows_at_event edits home edit 0 before after))
  edit_here = subst (λ rows. IsInRange (edit_at edits edit) (length rows)) (sym rows_first) here

  pub edit_made : rows_at_event edits home edit (count_of (edit_at edits edit)) before after ≡ edited row (edit_at edits edit) (rows_at_event edits home edit 0 before after)
  edit_made = ap (λ e. edited row e so_far) (begun_all (edit_at edits edit)) ∙ ap (edited row (edit_at edits edit)) (sym rows_first)
