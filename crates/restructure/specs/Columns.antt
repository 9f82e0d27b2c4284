-- Columns of a table under another schema.
use Rattle.std.specs.Prelude.{ℕ, map, Option}
use Rattle.mk_value.specs.Heading.{Domain}
use Rattle.tables.specs.Columns.{StoredColumn, IsColumnWith, column_values, home_of}
use Rattle.tables.specs.Tables.{StoredTable}
use Rattle.restructure.specs.Restructuring.{home_under, restructured_home, restructured_value, value_under}

-- what a column of an old domain becomes under a new one
abbrev pub IsUnder : Domain → Domain → StoredColumn → StoredColumn → Type 0
IsUnder old new was made = IsColumnWith new (map (restructured_value old new) (column_values old was)) (restructured_home old new (home_of was) (column_values old was)) made

-- the column of a new property that has this place in the old schema, or none
abbrev pub IsColumnUnder : StoredTable → Option ℕ → Domain → StoredColumn → Type 0
IsColumnUnder t place new made = IsColumnWith new (map (value_under t.schema place new) t.rows) (home_under t.schema place new t.homes t.rows) made
