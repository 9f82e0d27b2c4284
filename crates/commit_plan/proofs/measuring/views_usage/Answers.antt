use Rattle.commit_plan.proofs.UsedUp.{adds_all_views}
use Rattle.commit_plan.proofs.measuring.views_usage.Goals as goal

pub returns : goal.returns
returns c =
    adds_all_views c.args.views.now c.tables-table-items.result.now c.tables.table-index c.args.usage.now c.tables.usage c.tables-table-items.ensures.tables c.tables-test.false c.tables.invariant
