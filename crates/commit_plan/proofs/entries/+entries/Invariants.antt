use Rattle.std.proofs.Common.{◌≡◌, ◌+◌, ◌*◌, take, map}
use Rattle.std.specs.List.{AllZip}
use Rattle.tables.specs.Sizes.{column_size, columns_size, table_size, tables_size}
use Rattle.tables.specs.Stored.{stored_of}
use Rattle.commit_plan.specs.Entries.{IsBodyOf, stored_entry}
use Rattle.commit_plan.proofs.entries.+entries.Given as goal

abbrev pub decreases-table_body : goal.decreases-table_body
decreases-table_body l = 2 * table_size l.table.now

abbrev pub decreases-cols_entries : goal.decreases-cols_entries
decreases-cols_entries l = 2 * columns_size l.cols.now + 1

abbrev pub decreases-col_entry : goal.decreases-col_entry
decreases-col_entry l = 2 * column_size (stored_of l.col.now)

abbrev pub decreases-tables_bodies : goal.decreases-tables_bodies
decreases-tables_bodies l = 2 * tables_size l.tables.now

abbrev pub invariant-cols_entries-cols : goal.invariant-cols_entries-cols
invariant-cols_entries-cols l = l.entries ≡ map stored_entry (take l.col-index l.fn.cols)

abbrev pub invariant-tables_bodies-rows : goal.invariant-tables_bodies-rows
invariant-tables_bodies-rows l = AllZip IsBodyOf (take l.row l.fn.tables) l.bodies
