-- The values of rows that a column is made of.
use Rattle.std.specs.Prelude.{◌≡◌, ℕ, ◌<◌, ◌≤◌, List, length, All, slice_index_or, pos}
use Rattle.mk_value.specs.Limits.{max_rows}
use Rattle.mk_value.specs.Heading.{Domain, attributes_of}
use Rattle.mk_value.specs.Data.{Datum, integer, IsOf}
use Rattle.tables.specs.Tables.{StoredTable, table_without_homes}

-- each row has a value at the place
pub record HasColumn (rows : List (List Datum)) (at : ℕ) : Type 0 where
  pub few : length rows ≤ max_rows
  pub wide : All (λ row. at < length row) rows

-- each row has a value of the domain at the place
pub record AreCells (rows : List (List Datum)) (at : ℕ) (e : Domain) : Type 0 where
  pub column : HasColumn rows at
  pub fit : All (λ row. IsOf (slice_index_or row at (integer (pos 0))) e) rows

-- the table is that of these rows, which are a value of the domain
abbrev pub IsTableOfRows : Domain → List (List Datum) → StoredTable → Type 0
IsTableOfRows (Domain.relation h) rows t = t ≡ table_without_homes (attributes_of h) rows
IsTableOfRows _ rows t = ⊥
