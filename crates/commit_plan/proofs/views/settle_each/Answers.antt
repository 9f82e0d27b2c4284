use Rattle.std.proofs.Common.{sym}
use Rattle.commit_plan.specs.Settling.{IsSettledTable, table_count}
use Rattle.commit_plan.proofs.Turns.{enough_left, settles_more}
use Rattle.commit_plan.proofs.views.settle_each.Goals as goal

pub settle_table-requires : goal.settle_table-requires
settle_table-requires c =
    enough_left table_count IsSettledTable c.args.tables.now c.tables.settled.items c.tables.table-index c.table-item.result c.args.places.now c.tables.places c.tables-test.true (sym c.table-item.is) c.requires c.tables.invariant

pub tables-preserved : goal.tables-preserved
tables-preserved c =
    settles_more table_count IsSettledTable c.args.tables.now c.tables.settled.items c.push.new.self.items c.tables.table-index c.table-item.result c.in_ok-settle_table.field-0 c.args.places.now c.tables.places c.settle_table.new.places
    c.tables-test.true (sym c.table-item.is) c.tables.invariant c.in_ok-settle_table.ensures c.in_ok-push.ensures.items
