-- The homes of a table have its shape: one for each column, of its kind, with a span for each block.
use Rattle.std.specs.Prelude.{◌≡◌, ℕ, ◌+◌, List, [], ◌∷◌, length, map}
use Rattle.mk_value.specs.Heading.{Domain, Heading, no_attributes, attribute, heading_of}
use Rattle.mk_value.specs.Data.{Datum, text, bytes}
use Rattle.bytes_col.specs.Strings.{long_values}
use Rattle.tables.specs.Homes.{Home, no_home, numbers, strings, tables, ColumnHomes, no_columns, column, RowHomes, no_rows, row, column_homes, column_of, rows_in}
use Rattle.tables.specs.Tables.{StoredTable}

-- the bytes of a text or a byte string
abbrev pub bytes_in : Datum → List ℕ
bytes_in (text content) = content
bytes_in (bytes content) = content
bytes_in _ = []

-- The home is one of a column of the domain with these values: a plain column has none, or one of its kind with a span for each
-- block; a view column has those of each row's table.
abbrev mutual
  pub IsHomeOf : Home → Domain → List Datum → Type 0
  IsHomeOf (tables rows) (Domain.relation h) values = AreRowHomesOf rows h values
  IsHomeOf no_home (Domain.relation h) values = ⊥
  IsHomeOf no_home e values = Unit {0}
  IsHomeOf (numbers block) Domain.integer values = Unit {0}
  IsHomeOf (numbers block) Domain.long values = Unit {0}
  IsHomeOf (strings sizes short memos) Domain.text values = length memos ≡ length (long_values (map bytes_in values))
  IsHomeOf (strings sizes short memos) Domain.bytes values = length memos ≡ length (long_values (map bytes_in values))
  IsHomeOf _ _ _ = ⊥

  pub AreRowHomesOf : RowHomes → Heading → List Datum → Type 0
  AreRowHomesOf no_rows h [] = Unit {0}
  AreRowHomesOf (row homes rest) h (d ∷ values) = AreHomesOf homes h 0 (rows_in d) × AreRowHomesOf rest h values
  AreRowHomesOf _ _ _ = ⊥

  -- of the columns of a table with these rows, from the place k on
  pub AreHomesOf : ColumnHomes → Heading → ℕ → List (List Datum) → Type 0
  AreHomesOf no_columns no_attributes k rows = Unit {0}
  AreHomesOf (column h rest) (attribute n e others) k rows = IsHomeOf h e (column_of rows k) × AreHomesOf rest others (k + 1) rows
  AreHomesOf _ _ _ _ = ⊥

abbrev pub HasHomes : StoredTable → Type 0
HasHomes t = AreHomesOf (column_homes t.homes) (heading_of t.schema) 0 t.rows
