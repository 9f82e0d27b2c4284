-- What a line does to the rows of a view, and the rows between two of its events.
use Rattle.std.specs.Prelude.{◌≡◌, ◌<◌, ℕ, true, List, [], ◌∷◌, ◌++◌, length, slice_index_or, take}
use Rattle.std.specs.Coded.{Coded-set}
use Rattle.mk_value.specs.Data.{Datum}
use Rattle.mk_value.specs.DataCode.{rows_code}
use Rattle.row_edits.specs.declared.edit.RowEdit.{RowEdit}
use Rattle.row_edits.specs.declared.edit.RowEdit.TheVariants.{Insert}
use Rattle.row_edits.specs.Events.{begun}
use Rattle.row_edits.specs.Edits.{AreInRange, bring, edited, edited_by}

-- the row that comes, which stands here among the rows after
abbrev pub row_at : List (List Datum) → ℕ → List Datum
row_at rows home = slice_index_or rows home []

-- edits lead from the rows before to the rows after, where the row that comes with them stands at home, if one comes
pub record IsLine (edits : List RowEdit) (home : ℕ) (before after : List (List Datum)) : Type 0 where
  pub in_range : AreInRange edits (length before)
  pub there : bring edits ≡ true → home < length after
  pub made : after ≡ edited_by (row_at after home) edits before

-- the rows once whole edits, and then a part of the next, have happened
abbrev pub rows_between : List RowEdit → RowEdit → ℕ → List (List Datum) → List (List Datum) → List (List Datum)
rows_between whole part home before after = edited (row_at after home) part (edited_by (row_at after home) whole before)

-- the rows between can be shown: whole edits and a part may be made of the rows before, and the row that comes stands among those after
pub record IsBetween (whole : List RowEdit) (part : RowEdit) (home : ℕ) (before after : List (List Datum)) : Type 0 where
  pub in_range : AreInRange (whole ++ part ∷ []) (length before)
  pub there : bring (whole ++ part ∷ []) ≡ true → home < length after

-- the edit of a number, or one that does nothing where there is none
abbrev pub edit_at : List RowEdit → ℕ → RowEdit
edit_at edits i = slice_index_or edits i (Insert 0 0)

-- the rows once the edits before one, and so many events of it, have happened
abbrev pub rows_at_event : List RowEdit → ℕ → ℕ → ℕ → List (List Datum) → List (List Datum) → List (List Datum)
rows_at_event edits home edit events before after = rows_between (take edit edits) (begun events (edit_at edits edit)) home before after

-- that two lists of rows are equal has one proof
pub rows-prop : (a b : List (List Datum)) → IsProp (a ≡ b)
rows-prop a b = Coded-set rows_code a b
