use Rattle.std.proofs.Common.{◌≡◌, get_or, ap, sym, ◌∙◌}
use Rattle.tables.specs.Pools.{no_table}
use Rattle.tables.specs.Tables.{StoredTable}
use Rattle.tables.proofs.Cells.{IfOk-then}
use Rattle.tables.proofs.Homed.{columns_again, enough_again, rows_again, shape_again}
use Rattle.tables.proofs.Rebuilding.{AreRebuilt}
use Rattle.tables.proofs.pool.Pool.to_shared.Goals as goal

pub homed_cols-requires : goal.homed_cols-requires
homed_cols-requires c =
    let t = get_or c.args.self.now c.args.number no_table in
    let schema = c.schema.ensures.each c.args.number no_table c.requires in
    let rows = c.in_ok-rows.ensures ∙ c.rows.ensures.rows in
    record {
      rows = rows_again t c.schema.result.now c.in_ok-rows.rows c.rows.ensures.whole schema rows;
      enough = enough_again t c.schema.result.now c.blocks-blocks.result.now c.blocks-blocks.ensures schema;
      shaped = shape_again t c.schema.result.now c.in_ok-rows.rows c.blocks-blocks.result.now c.rows.ensures.homes c.blocks-blocks.ensures schema rows;
    }

pub of_columns-requires : goal.of_columns-requires
of_columns-requires c =
    let t = get_or c.args.self.now c.args.number no_table in
    let schema = c.schema.ensures.each c.args.number no_table c.requires in
    let shared = c.shared_schema.ensures c.args.number no_table c.requires in
    let rows = c.in_ok-rows.ensures ∙ c.rows.ensures.rows in
    (columns_again t c.schema.result.now c.shared_schema.result.now c.in_ok-rows.rows c.blocks-blocks.result.now c.in_ok-cols.cols c.len.result
    c.rows.ensures.whole c.rows.ensures.homes c.blocks-blocks.ensures schema shared rows c.len.ensures c.in_ok-cols.ensures).whole

pub returns : goal.returns
returns c =
    let t = get_or c.args.self.now c.args.number no_table in
    let schema = c.schema.ensures.each c.args.number no_table c.requires in
    let shared = c.shared_schema.ensures c.args.number no_table c.requires in
    let rows = c.in_ok-rows.ensures ∙ c.rows.ensures.rows in
    let rebuilt =
    columns_again t c.schema.result.now c.shared_schema.result.now c.in_ok-rows.rows c.blocks-blocks.result.now c.in_ok-cols.cols c.len.result
    c.rows.ensures.whole c.rows.ensures.homes c.blocks-blocks.ensures schema shared rows c.len.ensures c.in_ok-cols.ensures in
    IfOk-then c.share.result c.share.ensures (λ u e. e ∙ c.in_ok-table.ensures ∙ rebuilt.table)
