-- A table in a row of a view column, as it is read.
use Rattle.std.specs.Prelude.{ℕ, ◌<◌, length, slice_index_or}
use Rattle.tables.specs.Pools.{no_table}
use Rattle.tables.specs.Tables.{StoredTable}
use Rattle.tables.specs.declared.nested.Place.{Place}
use Rattle.tables.specs.declared.nested.Place.TheVariants.{Own, Part}

abbrev pub nested_table : Place → StoredTable
nested_table (Own table) = table.now
nested_table (Part pool number) = slice_index_or pool.now number no_table

-- the pool has a table of the number
abbrev pub IsNested : Place → Type 0
IsNested (Own table) = Unit {0}
IsNested (Part pool number) = number < length pool.now
