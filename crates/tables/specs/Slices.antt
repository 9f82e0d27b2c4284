-- Some of the rows of a table, one after another.
use Rattle.std.specs.Prelude.{ℕ, ◌+◌, ◌≤◌, List, length, take, drop}
use Rattle.mk_value.specs.Data.{Datum}
use Rattle.mk_value.specs.Limits.{max_rows}
use Rattle.tables.specs.declared.slice.Slice.{Slice}

-- so many of a list from a place on
abbrev pub sliced : {X : Type 0} → ℕ → ℕ → List X → List X
sliced from count xs = take count (drop from xs)

-- the table has so many rows, and at most as many as a table has
pub record IsWithin (s : Slice) : Type 0 where
  pub within : s.from + s.count ≤ length s.table.now.rows
  pub few : length s.table.now.rows ≤ max_rows

abbrev pub rows_in_slice : Slice → List (List Datum)
rows_in_slice s = sliced s.from s.count s.table.now.rows
