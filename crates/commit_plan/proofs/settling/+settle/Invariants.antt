use Rattle.std.proofs.Common.{◌+◌, ◌-◌, ◌*◌, length, take}
use Rattle.tables.specs.Sizes.{column_size, columns_size, table_size, tables_size}
use Rattle.tables.specs.Stored.{stored_of}
use Rattle.commit_plan.specs.Settling.{SettlesColumns, SettlesTables}
use Rattle.commit_plan.proofs.settling.+settle.Given as goal

abbrev pub decreases-settle_table : goal.decreases-settle_table
decreases-settle_table l = 2 * table_size l.shared.now

abbrev pub decreases-settle_cols : goal.decreases-settle_cols
decreases-settle_cols l = 2 * columns_size l.cols.now + 1

abbrev pub decreases-settle_col : goal.decreases-settle_col
decreases-settle_col l = 2 * column_size (stored_of l.col.now)

abbrev pub decreases-settle_tables : goal.decreases-settle_tables
decreases-settle_tables l = 2 * tables_size l.tables.now + 1

abbrev pub decreases-settle_next : goal.decreases-settle_next
decreases-settle_next l = 2 * tables_size l.tables.now

abbrev pub decreases-settle_nested : goal.decreases-settle_nested
decreases-settle_nested l = 2 * table_size l.table + 1

abbrev pub invariant-settle_cols-cols : goal.invariant-settle_cols-cols
invariant-settle_cols-cols l = SettlesColumns (take l.col-index l.fn.cols) l.initial.places l.places l.settled

abbrev pub invariant-settle_tables-rows : goal.invariant-settle_tables-rows
invariant-settle_tables-rows l = SettlesTables (take l.row l.fn.tables) l.initial.places l.places l.settled

abbrev pub decreases-settle_tables-rows : goal.decreases-settle_tables-rows
decreases-settle_tables-rows l = length l.fn.tables - l.row
