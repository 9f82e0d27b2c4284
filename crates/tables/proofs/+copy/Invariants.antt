use Rattle.std.proofs.Common.{◌≡◌, ◌+◌, ◌*◌, take, get_or, []}
use Rattle.mk_value.specs.Heading.{domain_weight, attributes_weight}
use Rattle.mk_value.specs.Kinds.{domain_of}
use Rattle.tables.specs.Slices.{rows_in_slice}
use Rattle.tables.proofs.+copy.Given as goal

abbrev pub decreases-column::Column::value : goal.decreases-column::Column::value
decreases-column::Column::value l = 4 * domain_weight (domain_of l.self.now.kind.now)

abbrev pub decreases-table::Table::row : goal.decreases-table::Table::row
decreases-table::Table::row l = 4 * attributes_weight l.self.now.schema + 1

abbrev pub decreases-table::Table::to_rows : goal.decreases-table::Table::to_rows
decreases-table::Table::to_rows l = 4 * attributes_weight l.self.now.schema + 2

abbrev pub invariant-table::Table::row-loop-col : goal.invariant-table::Table::row-loop-col
invariant-table::Table::row-loop-col l = l.row ≡ take l.col (get_or l.fn.self.rows l.fn.at [])

abbrev pub invariant-table::Table::to_rows-loop-at : goal.invariant-table::Table::to_rows-loop-at
invariant-table::Table::to_rows-loop-at l = l.rows ≡ take l.at l.fn.self.rows

abbrev pub decreases-slice::Slice::to_rows : goal.decreases-slice::Slice::to_rows
decreases-slice::Slice::to_rows l = 4 * attributes_weight l.self.now.table.now.schema + 2

abbrev pub decreases-nested::Nested::to_rows : goal.decreases-nested::Nested::to_rows
decreases-nested::Nested::to_rows l = 4 * attributes_weight l.self.now.schema + 3

abbrev pub invariant-slice::Slice::to_rows-loop-at : goal.invariant-slice::Slice::to_rows-loop-at
invariant-slice::Slice::to_rows-loop-at l = l.rows ≡ take l.at (rows_in_slice l.fn.self)
