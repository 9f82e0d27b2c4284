-- What a drawn number edits, and the line of an edit.
use Rattle.std.specs.Prelude.{ℕ, ◌+◌, ◌-◌, ◌%◌, ◌<◌, ◌==◌, nat_lt, ◌&&◌, if◌then◌else◌, pos, ◌-ℤ◌, List, ◌++◌, codes, decimal}
use Rattle.std.specs.Fmt.{signed_decimal}
use Rattle.sample.specs.declared.edit.Edit.{Edit}
use Rattle.sample.specs.declared.edit.Edit.TheVariants.{Set, Remove, Commit, Add}

-- a row is set or removed where there is one
abbrev pub edit_of : ℕ → ℕ → Edit
edit_of r rows =
    if (r % 8 == 5) && nat_lt 0 rows then Set (r % rows) (r % 1000)
    else (if (r % 8 == 6) && nat_lt 0 rows then Remove (r % rows)
    else (if r % 8 == 7 then Commit
    else Add (r % 100000) (r % 977) (pos r -ℤ pos 1073741824)))

abbrev pub edit_line : Edit → List ℕ
edit_line (Set row quantity) = codes "set item " ++ (decimal row ++ (codes " qty " ++ decimal quantity))
edit_line (Remove row) = codes "remove item " ++ (decimal row ++ codes " 1")
edit_line Commit = codes "commit"
edit_line (Add id name quantity) = codes "add item " ++ (decimal id ++ (codes " \"n" ++ (decimal name ++ (codes "\" " ++ signed_decimal quantity))))

-- the number of rows after an edit
abbrev pub rows_after : Edit → ℕ → ℕ
rows_after (Set row quantity) rows = rows
rows_after (Remove row) rows = rows - 1
rows_after Commit rows = rows
rows_after (Add id name quantity) rows = rows + 1

-- an edit of a row is of one that is there
abbrev pub IsOfRows : Edit → ℕ → Type 0
IsOfRows (Set row quantity) rows = row < rows
IsOfRows (Remove row) rows = row < rows
IsOfRows Commit rows = Unit {0}
IsOfRows (Add id name quantity) rows = Unit {0}
