use Rattle.std.proofs.Common.{ap, arith, refl, subst, sym}
use Rattle.tables.specs.Stored.{stored_of}
use Rattle.commit_plan.specs.Usage.{Adds}
use Rattle.commit_plan.proofs.Gained.{placed_blocks}
use Rattle.commit_plan.proofs.Sizes.{column_within, columns_lighter}
use Rattle.commit_plan.proofs.UsedUp.{AddsOf, adds_joins}
use Rattle.commit_plan.proofs.Walked.{walked_all, walked_column, walked_row, walked_views}
use Rattle.commit_plan.proofs.measuring.+measuring.Goals as goal

pub col_usage-returns-in-Views : goal.col_usage-returns-in-Views
col_usage-returns-in-Views t c = λ e whole. walked_views AddsOf adds_joins e (stored_of c.args.col.now) c.in-Views.tables c.args.usage.now c.tables_usage.new.usage (ap stored_of c.in-Views.is) c.tables_usage.ensures whole

pub nested_usage-returns-in-Err : goal.nested_usage-returns-in-Err
nested_usage-returns-in-Err t c =
    subst (λ ss. Adds ss c.args.usage.now c.add_blocks.new.self) (sym (placed_blocks c.args.table c.in-Err.blocks.now c.in-Err.ensures.placed)) c.add_blocks.ensures

pub table_usage-col_usage-requires : goal.table_usage-col_usage-requires
table_usage-col_usage-requires t c =
    let lighter = columns_lighter _ c.args.table.now.schema c.cols-2.result.now c.args.table.now c.cols-2.ensures.value c.cols-2.ensures.whole in
    let within = column_within c.cols-2.result.now c.as_slice-col-items.result.now c.cols.col-index c.col-item.result c.as_slice-col-items.ensures c.col-item.is c.cols-test.true in
    (omega (arith, lighter, within), tt)

pub table_usage-cols-preserved : goal.table_usage-cols-preserved
table_usage-cols-preserved t c =
    walked_column AddsOf adds_joins _ c.cols.col-index c.args.table.now.schema c.cols-2.result.now c.as_slice-col-items.result.now c.col-item.result c.args.usage.now c.cols.usage c.col_usage.new.usage
    c.cols-2.ensures.whole c.as_slice-col-items.ensures c.col-item.is c.cols-test.true c.cols.invariant c.col_usage.ensures

pub table_usage-returns : goal.table_usage-returns
table_usage-returns t c =
    walked_all AddsOf adds_joins _ c.cols.col-index c.args.table.now.schema c.cols-2.result.now c.as_slice-col-items.result.now c.args.table.now c.args.usage.now c.cols.usage
    c.cols-2.ensures.value c.cols-2.ensures.whole c.as_slice-col-items.ensures c.cols-test.false c.cols.invariant

pub tables_usage-rows-preserved : goal.tables_usage-rows-preserved
tables_usage-rows-preserved t c =
    walked_row AddsOf adds_joins c.rows.row c.args.tables.now c.get.result c.get.result c.args.usage.now c.rows.usage c.nested_usage.new.usage c.get.ensures refl c.rows.invariant c.nested_usage.ensures
