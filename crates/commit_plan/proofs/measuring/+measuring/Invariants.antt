use Rattle.std.proofs.Common.{◌+◌, ◌*◌, take, map}
use Rattle.tables.specs.Rests.{blocks}
use Rattle.tables.specs.Sizes.{column_size, table_size, tables_size}
use Rattle.tables.specs.Stored.{stored_of}
use Rattle.commit_plan.specs.Plain.{plain_stored, plain_tables}
use Rattle.commit_plan.specs.Usage.{Adds}
use Rattle.commit_plan.proofs.measuring.+measuring.Given as goal

abbrev pub decreases-table_usage : goal.decreases-table_usage
decreases-table_usage l = 2 * table_size l.table.now

abbrev pub decreases-col_usage : goal.decreases-col_usage
decreases-col_usage l = 2 * column_size (stored_of l.col.now)

abbrev pub decreases-nested_usage : goal.decreases-nested_usage
decreases-nested_usage l = 2 * table_size l.table + 1

abbrev pub decreases-tables_usage : goal.decreases-tables_usage
decreases-tables_usage l = 2 * tables_size l.tables.now

abbrev pub invariant-table_usage-cols : goal.invariant-table_usage-cols
invariant-table_usage-cols l = Adds (blocks (plain_stored (take l.col-index l.fn.table.schema) (take l.col-index (map stored_of l.col-items)))) l.initial.usage l.usage

abbrev pub invariant-tables_usage-rows : goal.invariant-tables_usage-rows
invariant-tables_usage-rows l = Adds (blocks (plain_tables (take l.row l.fn.tables))) l.initial.usage l.usage
