-- When a table rests on another: each home in it is one that the same column had there.
use Rattle.std.specs.Prelude.{ℕ, ◌+◌, List, [], ◌∷◌, ◌++◌, drop, slice_index_or, All, Contains, pos}
use Rattle.std.specs.List.{flat_map}
use Rattle.mk_value.specs.declared.span.Span.{Span}
use Rattle.mk_value.specs.Heading.{Domain, Attribute}
use Rattle.mk_value.specs.Data.{Datum, integer}
use Rattle.mk_value.specs.Tables.{domain_at}
use Rattle.free_space.specs.Extents.{AreApart}
use Rattle.tables.specs.Homes.{PlainColumn, Home, no_home, numbers, strings, tables, ColumnHomes, no_columns, column, RowHomes, no_rows, row, column_homes, column_of, rows_in}
use Rattle.tables.specs.Tables.{StoredTable, inner_schema}

-- The plain columns that have a home, nested ones too: of a column with these values, of the rows of a view column with these values,
-- and of the columns of a table from the place k on.
abbrev mutual
  pub homed_in : Home → Domain → List Datum → List PlainColumn
  homed_in no_home e values = []
  homed_in (numbers block) e values = record { domain = e; values = values; home = numbers block } ∷ []
  homed_in (strings sizes short memos) e values = record { domain = e; values = values; home = strings sizes short memos } ∷ []
  homed_in (tables rows) e values = homed_rows rows e values

  pub homed_rows : RowHomes → Domain → List Datum → List PlainColumn
  homed_rows no_rows e values = []
  homed_rows (row homes rest) e values =
      homed_from homes (inner_schema e) 0 (rows_in (slice_index_or values 0 (integer (pos 0)))) ++ homed_rows rest e (drop 1 values)

  pub homed_from : ColumnHomes → List Attribute → ℕ → List (List Datum) → List PlainColumn
  homed_from no_columns schema k rows = []
  homed_from (column h rest) schema k rows = homed_in h (domain_at schema k) (column_of rows k) ++ homed_from rest schema (k + 1) rows

abbrev pub homed_columns : StoredTable → List PlainColumn
homed_columns t = homed_from (column_homes t.homes) t.schema 0 t.rows

-- the blocks of the homes of columns
abbrev pub blocks_of : Home → List Span
blocks_of (numbers block) = block ∷ []
blocks_of (strings sizes short memos) = sizes ∷ short ∷ memos
blocks_of _ = []

abbrev pub blocks : List PlainColumn → List Span
blocks columns = flat_map (λ c. blocks_of c.home) columns

-- each column that has a home is one of the old, of the same domain and values and with the same home,
-- and where the extents of the old homes do not meet one another, these do not
pub record Rest (new old : List PlainColumn) : Type 0 where
  pub kept : All (Contains old) new
  pub apart : AreApart (blocks old) → AreApart (blocks new)

abbrev pub RestsOn : StoredTable → StoredTable → Type 0
RestsOn new old = Rest (homed_columns new) (homed_columns old)
