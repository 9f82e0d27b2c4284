-- What a line does to the rows that its path names, as an edit of the views and as one of rows.
use Rattle.std.specs.Prelude.{◌≤◌, ℕ}
use Rattle.mk_value.specs.Limits.{max_rows}
use Rattle.mk_value.specs.Values.{datum_of}
use Rattle.row_edits.specs.declared.edit.RowEdit.{RowEdit}
use Rattle.row_edits.specs.declared.edit.RowEdit.TheVariants as row_edit
use Rattle.view_store.specs.Edits.{Edit}
use Rattle.session.specs.declared.change.Change.{Change}
use Rattle.session.specs.declared.change.Change.TheVariants.{Insert, Set, Remove}

abbrev pub edit_of : Change → Edit
edit_of (Insert at row copies) = Edit.insert at row.now copies
edit_of (Set at prop value) = Edit.set at prop.now (datum_of value.now)
edit_of (Remove at rows) = Edit.remove at rows

-- not more rows are put in than a view has
abbrev pub FitsSizes : Change → Type 0
FitsSizes (Insert at row copies) = copies ≤ max_rows
FitsSizes _ = Unit {0}

-- the edit as one of rows, and where the row that comes with it stands
abbrev pub row_edit_of : Edit → RowEdit
row_edit_of (Edit.insert at row n) = row_edit.Insert at n
row_edit_of (Edit.set i prop d) = row_edit.Change i
row_edit_of (Edit.remove at n) = row_edit.Remove at n

abbrev pub home_of : Edit → ℕ
home_of (Edit.insert at row n) = at
home_of (Edit.set i prop d) = i
home_of (Edit.remove at n) = 0
