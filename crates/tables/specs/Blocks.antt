-- The plain columns of a table in the order in which a directory names them, and the blocks of each as bytes.
use Rattle.std.specs.Prelude.{ℕ, ◌+◌, Bool, true, false, List, [], ◌∷◌, ◌++◌, map, drop, slice_index_or, pos}
use Rattle.mk_value.specs.Heading.{Domain, Heading, attribute, heading_of}
use Rattle.mk_value.specs.Data.{Datum, integer}
use Rattle.mk_value.specs.Tables.{number_in}
use Rattle.bit_pack.specs.Packed.{packed}
use Rattle.bytes_col.specs.Strings.{string_blocks}
use Rattle.tables.specs.Homes.{Home, no_home, tables, PlainColumn, ColumnHomes, column, RowHomes, no_rows, row, column_homes, column_of, rows_in}
use Rattle.tables.specs.Shapes.{bytes_in}
use Rattle.tables.specs.Tables.{StoredTable}

-- The plain columns, nested ones too: of a column of a domain with these values, of the tables in the rows of a view column, and of
-- the columns of a table from the place k on.
abbrev mutual
  pub plain_in : Home → Domain → List Datum → List PlainColumn
  plain_in (tables rows) (Domain.relation h) values = plain_rows rows h values
  plain_in _ (Domain.relation h) values = []
  plain_in home e values = record { domain = e; values = values; home = home } ∷ []

  pub plain_rows : RowHomes → Heading → List Datum → List PlainColumn
  plain_rows no_rows h values = []
  plain_rows (row homes rest) h values =
      plain_from homes h 0 (rows_in (slice_index_or values 0 (integer (pos 0)))) ++ plain_rows rest h (drop 1 values)

  pub plain_from : ColumnHomes → Heading → ℕ → List (List Datum) → List PlainColumn
  plain_from (column home rest) (attribute n e others) k rows =
      plain_in home e (column_of rows k) ++ plain_from rest others (k + 1) rows
  plain_from _ _ _ _ = []

abbrev pub has_home : Home → Bool
has_home no_home = false
has_home _ = true

abbrev pub plain_columns : StoredTable → List PlainColumn
plain_columns t = plain_from (column_homes t.homes) (heading_of t.schema) 0 t.rows

-- the column has a home, as a test
abbrev pub is_homed : PlainColumn → Bool
is_homed c = has_home c.home

-- the blocks of a plain column of the domain with these values, as bytes, in the order of its home
abbrev pub blocks_of_values : Domain → List Datum → List (List ℕ)
blocks_of_values Domain.integer values = packed (map number_in values) ∷ []
blocks_of_values Domain.long values = packed (map number_in values) ∷ []
blocks_of_values Domain.text values = string_blocks (map bytes_in values)
blocks_of_values Domain.bytes values = string_blocks (map bytes_in values)
blocks_of_values (Domain.relation h) values = []
