use Rattle.std.proofs.Common.{◌++◌, take, ap, sym, ◌∙◌, arith}
use Rattle.tables.specs.Pools.{rows_of_tables}
use Rattle.tables.specs.Tables.{StoredTable}
use Rattle.tables.proofs.Gathered.{flat_all, flat_more}
use Rattle.tables.proofs.pool.rows_of.Goals as goal

pub loop-table-preserved : goal.loop-table-preserved
loop-table-preserved c =
    c.in_ok-push_rows.ensures
    ∙ ap (λ rows. rows ++ c.table.result.now.rows) c.loop-table.invariant
    ∙ ap (λ (u : StoredTable). rows_of_tables (take c.loop-table.table-index c.args.tables.now) ++ u.rows) c.table.ensures
    ∙ sym (flat_more (λ (u : StoredTable). u.rows) c.args.tables.now c.loop-table.table-index c.table-item.result c.loop-table-test.true c.table-item.is)

pub returns : goal.returns
returns c = c.loop-table.invariant ∙ flat_all (λ (u : StoredTable). u.rows) c.args.tables.now c.loop-table.table-index (omega arith)
