use Rattle.std.proofs.Common.{ap, sym, subst, ◌∙◌}
use Rattle.mk_value.specs.Data.{AreRowsOf}
use Rattle.tables.specs.Tables.{StoredTable}
use Rattle.tables.proofs.Gathered.{IsGathered, blocks_compact, gathered_again, gathered_pool, rows_few, rows_gathered}
use Rattle.tables.proofs.pool.Pool.of.Goals as goal

pub table_of_rows-requires : goal.table_of_rows-requires
table_of_rows-requires c =
    subst (λ rows. AreRowsOf rows c.args.schema.now) (sym c.in_ok-rows.ensures) (rows_gathered c.args.schema.now c.args.tables.now c.requires.each c.requires.few)

pub invariant_of-result : goal.invariant_of-result
invariant_of-result c =
    let g : IsGathered c.args.schema.now c.args.tables.now c.in_ok-table_of_rows.field-0 c.in_ok-ends_of.field-0.items c.in_ok-blocks_of.field-0.items = record {
      schema_is = ap (λ (t : StoredTable). t.schema) c.in_ok-table_of_rows.ensures;
      rows = ap (λ (t : StoredTable). t.rows) c.in_ok-table_of_rows.ensures ∙ c.in_ok-rows.ensures;
      ends_are = c.in_ok-ends_of.ensures;
      blocks_are = c.in_ok-blocks_of.ensures;
    } in
    gathered_pool c.args.schema.now c.args.tables.now c.in_ok-table_of_rows.field-0 c.in_ok-ends_of.field-0.items c.in_ok-blocks_of.field-0.items g c.requires.each c.requires.some c.requires.few

pub returns : goal.returns
returns c =
    let g : IsGathered c.args.schema.now c.args.tables.now c.in_ok-table_of_rows.field-0 c.in_ok-ends_of.field-0.items c.in_ok-blocks_of.field-0.items = record {
      schema_is = ap (λ (t : StoredTable). t.schema) c.in_ok-table_of_rows.ensures;
      rows = ap (λ (t : StoredTable). t.rows) c.in_ok-table_of_rows.ensures ∙ c.in_ok-rows.ensures;
      ends_are = c.in_ok-ends_of.ensures;
      blocks_are = c.in_ok-blocks_of.ensures;
    } in
    gathered_again c.args.schema.now c.args.tables.now c.in_ok-table_of_rows.field-0 c.in_ok-ends_of.field-0.items c.in_ok-blocks_of.field-0.items g c.requires.each

pub ends_of-requires : goal.ends_of-requires
ends_of-requires c = rows_few c.args.schema.now c.args.tables.now c.requires.each c.requires.few

pub blocks_of-requires : goal.blocks_of-requires
blocks_of-requires c = blocks_compact c.args.schema.now c.args.tables.now c.requires.each
