-- Where rows that stand after edits stood before them, which no public clause names.
use Rattle.std.specs.Prelude.{◌≡◌, ◌<◌, ◌≤◌, ◌+◌, ◌-◌, ◌==◌, ℕ, true, nat_lt, if◌then◌else◌, List, [], length, slice_index_or, Option, Some, None, MatchOption}
use Rattle.mk_value.specs.Data.{Datum}
use Rattle.mk_value.specs.Limits.{max_rows}
use Rattle.row_edits.specs.declared.edit.RowEdit.{RowEdit}
use Rattle.row_edits.specs.declared.edit.RowEdit.TheVariants.{Insert, Remove, Change}
use Rattle.row_edits.specs.Edits.{AreInRange, IsInRange, bring, edited_by, size_after, size_by}

-- the place before an edit of a row that stands after it, or none where it came with the edit
abbrev pub stood_at : RowEdit → ℕ → Option ℕ
stood_at (Insert at count) row =
    if nat_lt row at then Some row else (if nat_lt row (at + count) then None else Some (row - count))
stood_at (Remove at count) row = if nat_lt row at then Some row else Some (row + count)
stood_at (Change at) row = if row == at then None else Some row

-- a row stands after an edit of so many rows, or after edits
pub record StandsAfter (e : RowEdit) (row size : ℕ) : Type 0 where
  pub in_range : IsInRange e size
  pub few : size ≤ max_rows
  pub there : row < size_after e size

pub record StandAfter (edits : List RowEdit) (row size : ℕ) : Type 0 where
  pub in_range : AreInRange edits size
  pub few : size ≤ max_rows
  pub there : row < size_by edits size

-- a row that stands after edits came with them, or is the one that stood at a place before them
abbrev pub ComesFrom : List RowEdit → ℕ → Option ℕ → List Datum → List (List Datum) → Type 0
ComesFrom edits row found came rows =
    MatchOption found ((bring edits ≡ true) × (slice_index_or (edited_by came edits rows) row [] ≡ came))
    (λ at. (at < length rows) × (slice_index_or (edited_by came edits rows) row [] ≡ slice_index_or rows at []))
