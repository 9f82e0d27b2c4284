use Rattle.std.proofs.Common.{◌≡◌, ◌+◌, ◌*◌, take, map}
use Rattle.mk_value.specs.Heading.{domain_weight, attributes_weight}
use Rattle.mk_value.specs.Kinds.{domain_of}
use Rattle.tables.specs.Homes.{column_of, rows_in}
use Rattle.tables.specs.Tables.{table_without_homes}
use Rattle.tables.proofs.Rebuilding.{AreFirstColumns}
use Rattle.tables.proofs.build.+build.Given as goal

abbrev pub decreases-table_of_rows : goal.decreases-table_of_rows
decreases-table_of_rows l = 5 * attributes_weight l.schema.now + 2

abbrev pub decreases-cols_of_rows : goal.decreases-cols_of_rows
decreases-cols_of_rows l = 5 * attributes_weight l.schema.now + 1

abbrev pub decreases-col_of_rows : goal.decreases-col_of_rows
decreases-col_of_rows l = 5 * domain_weight (domain_of l.kind.now)

abbrev pub decreases-views_of_rows : goal.decreases-views_of_rows
decreases-views_of_rows l = 5 * attributes_weight l.schema.now + 4

abbrev pub decreases-table_of_value : goal.decreases-table_of_value
decreases-table_of_value l = 5 * attributes_weight l.schema.now + 3

abbrev pub invariant-cols_of_rows-loop-at : goal.invariant-cols_of_rows-loop-at
invariant-cols_of_rows-loop-at l = AreFirstColumns (table_without_homes l.fn.schema l.fn.rows) l.at l.cols

abbrev pub invariant-views_of_rows-loop-row : goal.invariant-views_of_rows-loop-row
invariant-views_of_rows-loop-row l = l.tables ≡ map (λ d. table_without_homes l.fn.schema (rows_in d)) (take l.row-index (column_of l.fn.rows l.fn.at))
