use Rattle.std.proofs.Common.{◌+◌, ◌*◌, take, map}
use Rattle.tables.specs.Sizes.{column_size, table_size, tables_size}
use Rattle.tables.specs.Stored.{stored_of}
use Rattle.commit_plan.specs.Leaves.{Gains}
use Rattle.commit_plan.specs.Plain.{plain_stored, plain_tables}
use Rattle.commit_plan.proofs.leaves.+leaves.Given as goal

abbrev pub decreases-table_leaves : goal.decreases-table_leaves
decreases-table_leaves l = 2 * table_size l.table.now

abbrev pub decreases-col_leaves : goal.decreases-col_leaves
decreases-col_leaves l = 2 * column_size (stored_of l.col.now)

abbrev pub decreases-nested_leaves : goal.decreases-nested_leaves
decreases-nested_leaves l = 2 * table_size l.table + 1

abbrev pub decreases-tables_leaves : goal.decreases-tables_leaves
decreases-tables_leaves l = 2 * tables_size l.tables.now

abbrev pub invariant-table_leaves-cols : goal.invariant-table_leaves-cols
invariant-table_leaves-cols l = Gains (plain_stored (take l.col-index l.fn.table.schema) (take l.col-index (map stored_of l.col-items))) l.initial.leaves.items l.leaves.items

abbrev pub invariant-tables_leaves-rows : goal.invariant-tables_leaves-rows
invariant-tables_leaves-rows l = Gains (plain_tables (take l.row l.fn.tables)) l.initial.leaves.items l.leaves.items
