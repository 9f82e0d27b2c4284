use Rattle.std.proofs.Common.{[]}
use Rattle.commit_plan.specs.Leaves.{Gains}
use Rattle.commit_plan.proofs.Gained.{gains_joins}
use Rattle.commit_plan.proofs.ViewColumns.{leaves_together}
use Rattle.commit_plan.proofs.Walked.{walked_next}
use Rattle.commit_plan.proofs.leaves.leaves_of.Goals as goal

pub tables-preserved : goal.tables-preserved
tables-preserved c =
    walked_next Gains gains_joins c.tables-table-items.result.now c.tables.table-index c.table-item.result c.table.result.now [] c.tables.leaves.items c.table_leaves.new.leaves.items c.tables-test.true c.table-item.is c.table.ensures c.tables.invariant c.in_ok-table_leaves.ensures

pub returns : goal.returns
returns c =
    leaves_together c.args.views.now c.tables-table-items.result.now c.tables.table-index c.tables.leaves.items c.tables-table-items.ensures.tables c.tables-test.false c.tables.invariant
