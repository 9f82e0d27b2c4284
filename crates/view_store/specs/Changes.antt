-- What an edit of the program means.
use Rattle.std.specs.Prelude.{◌≤◌}
use Rattle.mk_value.specs.Limits.{max_rows}
use Rattle.mk_value.specs.Values.{datum_of}
use Rattle.view_store.specs.declared.change.Change.{Change}
use Rattle.view_store.specs.declared.change.Change.TheVariants.{Insert, Set, Remove}
use Rattle.view_store.specs.Edits.{Edit}

abbrev pub edit_of : Change → Edit
edit_of (Insert at row count) = Edit.insert at row.now count
edit_of (Set row prop value) = Edit.set row prop.now (datum_of value.now)
edit_of (Remove at count) = Edit.remove at count

-- the counts and places are numbers of the program, and not more rows are put in than a view has
abbrev pub FitsSizes : Change → Type 0
FitsSizes (Insert at row count) = count ≤ max_rows
FitsSizes _ = Unit {0}
