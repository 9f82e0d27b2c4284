-- Edits of rows that are kept by key.
use Rattle.std.specs.Prelude.{◌≡◌, ◌≢◌, ◌<◌, ◌≤◌, ◌+◌, ◌-◌, ◌==◌, ℕ, Bool, true, false, nat_lt, if◌then◌else◌, List, [], ◌∷◌, ◌++◌, length, Option, Some, None}
use Rattle.mk_value.specs.Data.{Datum}
use Rattle.mk_value.specs.Limits.{max_rows}
use Rattle.live.specs.Placing.{closed_by}
use Rattle.mapped.specs.Index.{row_of}
use Rattle.row_edits.specs.declared.edit.RowEdit.{RowEdit}
use Rattle.row_edits.specs.declared.edit.RowEdit.TheVariants as edit
use Rattle.keyed_views.specs.declared.keyed.KeyedEdit.{KeyedEdit}
use Rattle.keyed_views.specs.declared.keyed.KeyedEdit.TheVariants.{Put, Replace, Change, Move, Remove}

-- the removal of a row, if one is named
abbrev pub gone : Option ℕ → List RowEdit
gone None = []
gone (Some k) = edit.Remove k 1 ∷ []

-- what each is as edits of rows, one after another
abbrev pub edits_of : KeyedEdit → List RowEdit
edits_of (Put at) = edit.Insert at 1 ∷ []
edits_of (Replace at) = edit.Remove at 1 ∷ edit.Insert at 1 ∷ []
edits_of (Change at other) = edit.Change at ∷ gone other
edits_of (Move at other to) = edit.Change at ∷ (gone other ++ edit.Remove (closed_by other at) 1 ∷ edit.Insert to 1 ∷ [])
edits_of (Remove at count) = edit.Remove at count ∷ []

-- where the row that comes stands after all of them
abbrev pub home_of : KeyedEdit → ℕ
home_of (Put at) = at
home_of (Replace at) = at
home_of (Change at other) = closed_by other at
home_of (Move at other to) = to
home_of (Remove at count) = 0

-- the row of a key, where it is another than one
abbrev pub other_than : ℕ → Option ℕ → Option ℕ
other_than at None = None
other_than at (Some j) = if j == at then None else Some j

-- a row is put in the place of the row that has its key, and else before a place
abbrev pub put_by : Option ℕ → ℕ → KeyedEdit
put_by None at = Put at
put_by (Some j) at = Replace j

-- how a row may come among rows of these keys that an index keeps: it has the key
abbrev pub IsHashed : KeyedEdit → List Datum → List (List Datum) → Type 0
IsHashed (Put at) key keys = (row_of key keys ≡ None) × (at ≤ length keys) × (length keys < max_rows)
IsHashed (Replace at) key keys = row_of key keys ≡ Some at
IsHashed (Change at other) key keys = (at < length keys) × (other ≡ other_than at (row_of key keys))
IsHashed (Move at other to) key keys = ⊥
IsHashed (Remove at count) key keys = ⊥

-- where a row is put among rows that stand in the order of their keys: at a place, in the place of the row there where that has its key
abbrev pub put_ordered : ℕ → Bool → KeyedEdit
put_ordered low true = Replace low
put_ordered low false = Put low

-- a row stays where its change leaves it, or moves before another place
abbrev pub moved_to : ℕ → Option ℕ → ℕ → KeyedEdit
moved_to at other to = if to == closed_by other at then Change at other else Move at other to

-- a row is given a key that comes behind so many of all rows, the one at that place having it or not. Another row that has it goes; and
-- where the row does not stand behind so many of the others it moves there
abbrev pub set_ordered : ℕ → ℕ → Bool → KeyedEdit
set_ordered at low false = moved_to at None (if nat_lt at low then low - 1 else low)
set_ordered at low true = if low == at then Change at None else moved_to at (Some low) (if nat_lt at low then low - 1 else low)

-- the row that is named is another than one of so many
abbrev pub IsAnother : Option ℕ → ℕ → ℕ → Type 0
IsAnother None at size = Unit {0}
IsAnother (Some k) at size = (k < size) × (k ≢ at)

-- how many rows are left of so many without another, if one goes
abbrev pub size_without : Option ℕ → ℕ → ℕ
size_without None size = size
size_without (Some k) size = size - 1

-- the places are among so many rows
abbrev pub IsInPlace : KeyedEdit → ℕ → Type 0
IsInPlace (Put at) size = (at ≤ size) × (size < max_rows)
IsInPlace (Replace at) size = at < size
IsInPlace (Change at other) size = (at < size) × IsAnother other at size
IsInPlace (Move at other to) size = (at < size) × IsAnother other at size × (to < size_without other size)
IsInPlace (Remove at count) size = at + count ≤ size
