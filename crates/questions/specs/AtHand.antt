-- Names that stand for all rows of a view.
use Rattle.std.specs.Prelude.{◌≡◌, ℕ, List, Some, Ok}
use Rattle.std.specs.List.Sorted.{IsPermutation}
use Rattle.computing.specs.Computed.{alone}
use Rattle.eval.specs.Names.{view_at}
use Rattle.mk_value.specs.Tables.{Table}
use Rattle.tables.specs.Tables.{StoredTable}
use Rattle.view_store.specs.Views.{table_of}
use Rattle.questions.specs.Kept.{Names, known}

-- a name stands for the rows of a view, in whatever order
pub record ShowsView (names : Names) (view name : List ℕ) : Type 0 where
  pub table : StoredTable
  pub shown : Table
  pub there : table_of names.views view ≡ Some table
  pub is : view_at (known names.views names.snapshots names.watches) (alone name) ≡ Ok shown
  pub schema : shown.schema ≡ table.schema
  pub rows : IsPermutation table.rows shown.rows
