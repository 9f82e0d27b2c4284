-- A table of a list, which stands alone or in a pool.
use Rattle.std.specs.Prelude.{◌≡◌, ℕ, ◌<◌, List, length, All, slice_index_or}
use Rattle.tables.specs.Pools.{no_table}
use Rattle.tables.specs.Tables.{StoredTable}
use Rattle.tables.specs.declared.item.ItemKind.{ItemKind}
use Rattle.tables.specs.declared.item.ItemKind.TheVariants.{Own, Part}

abbrev pub item_table : ItemKind → StoredTable
item_table (Own table) = table
item_table (Part pool number) = slice_index_or pool.value number no_table

-- a list of tables of one schema has one of the number
pub record IsPart (ts : List StoredTable) (number : ℕ) : Type 0 where
  pub within : number < length ts
  pub same : All (λ t. t.schema ≡ (slice_index_or ts number no_table).schema) ts

abbrev pub IsItem : ItemKind → Type 0
IsItem (Own table) = Unit {0}
IsItem (Part pool number) = IsPart pool.value number
