-- Edits of a list of rows, one after another. All rows that come with them are one row.
use Rattle.std.specs.Prelude.{◌<◌, ◌≤◌, ◌+◌, ◌-◌, ℕ, Bool, true, false, nat_lt, List, [], ◌∷◌, ◌++◌, take, drop, replicate, slice_set}
use Rattle.std.specs.Coded.{×_prop, Unit-prop, le_prop}
use Rattle.std.specs.List.{list_any}
use Rattle.mk_value.specs.Limits.{max_rows}
use Rattle.row_edits.specs.declared.edit.RowEdit.{RowEdit}
use Rattle.row_edits.specs.declared.edit.RowEdit.TheVariants.{Insert, Remove, Change}

-- rows, or what else stands in their order, after an edit that puts copies of a row in before a place, takes rows out from a place on, or puts a row in the place of one
abbrev pub edited : {X : Type 0} → X → RowEdit → List X → List X
edited row (Insert at count) rows = take at rows ++ (replicate count row ++ drop at rows)
edited row (Remove at count) rows = take at rows ++ drop (at + count) rows
edited row (Change at) rows = slice_set rows at row

-- rows after edits, the first one first
abbrev pub edited_by : {X : Type 0} → X → List RowEdit → List X → List X
edited_by row [] rows = rows
edited_by row (e ∷ edits) rows = edited_by row edits (edited row e rows)

-- how many rows there are after an edit of so many
abbrev pub size_after : RowEdit → ℕ → ℕ
size_after (Insert at count) size = size + count
size_after (Remove at count) size = size - count
size_after (Change at) size = size

-- an edit may be made of so many rows: its places are among them, and there are not too many rows then
abbrev pub IsInRange : RowEdit → ℕ → Type 0
IsInRange (Insert at count) size = (at ≤ size) × (size + count ≤ max_rows)
IsInRange (Remove at count) size = at + count ≤ size
IsInRange (Change at) size = at < size

-- edits may be made of so many rows, one after another
abbrev pub AreInRange : List RowEdit → ℕ → Type 0
AreInRange [] size = Unit {0}
AreInRange (e ∷ edits) size = IsInRange e size × AreInRange edits (size_after e size)

-- a row comes with an edit, and with one of them
abbrev pub brings : RowEdit → Bool
brings (Insert at count) = nat_lt 0 count
brings (Remove at count) = false
brings (Change at) = true

abbrev pub bring : List RowEdit → Bool
bring edits = list_any brings edits

-- how many rows there are after edits of so many
abbrev pub size_by : List RowEdit → ℕ → ℕ
size_by [] size = size
size_by (e ∷ edits) size = size_by edits (size_after e size)

-- each of these facts has one proof
pub IsInRange-prop : (e : RowEdit) (size : ℕ) → IsProp (IsInRange e size)
IsInRange-prop (Insert at count) size = ×_prop le_prop le_prop
IsInRange-prop (Remove at count) size = le_prop
IsInRange-prop (Change at) size = le_prop

pub AreInRange-prop : (edits : List RowEdit) (size : ℕ) → IsProp (AreInRange edits size)
AreInRange-prop [] size = Unit-prop
AreInRange-prop (e ∷ edits) size = ×_prop (IsInRange-prop e size) (AreInRange-prop edits (size_after e size))
