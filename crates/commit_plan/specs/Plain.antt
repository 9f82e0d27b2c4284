-- The plain columns of tables, by what is kept in each column.
use Rattle.std.specs.Prelude.{List, [], ◌∷◌, ◌++◌}
use Rattle.std.specs.List.{flat_map}
use Rattle.mk_value.specs.Heading.{Domain, Attribute}
use Rattle.tables.specs.Homes.{PlainColumn}
use Rattle.tables.specs.Tables.{StoredTable}
use Rattle.tables.specs.Columns.{StoredColumn, column_values, home_of}
use Rattle.tables.specs.Blocks.{plain_columns, plain_in}

-- the plain columns in a column of the domain
abbrev pub plain_of : Domain → StoredColumn → List PlainColumn
plain_of e c = plain_in (home_of c) e (column_values e c)

-- those in the columns of a table, property by property
abbrev pub plain_stored : List Attribute → List StoredColumn → List PlainColumn
plain_stored (a ∷ schema) (c ∷ cols) = plain_of a.domain c ++ plain_stored schema cols
plain_stored _ _ = []

-- and those of several tables
abbrev pub plain_tables : List StoredTable → List PlainColumn
plain_tables ts = flat_map plain_columns ts
