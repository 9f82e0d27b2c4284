use Rattle.std.proofs.Common.{◌∙◌, All, get_or, ap, sym, subst, arith}
use Rattle.std.proofs.lemmas.Bool.{OnTrue_at}
use Rattle.std.proofs.lemmas.List.{take_all}
use Rattle.std.proofs.lemmas.List.Elements.{All-more, All-same}
use Rattle.tables.specs.Pools.{IsPoolable, no_table}
use Rattle.tables.specs.Tables.{StoredTable}
use Rattle.tables.proofs.Poolable.{first_schema, poolable_with}
use Rattle.tables.proofs.chunk.are_poolable.Goals as goal

pub loop-table-preserved : goal.loop-table-preserved
loop-table-preserved c =
    let ts = c.args.tables.now in
    let schema = c.get-schema.ensures ∙ first_schema ts c.index-tables-0.result c.shared_schema.result.now c.requires c.index-tables-0.is (c.shared_schema.ensures ∙ ap (λ (t : StoredTable). t.schema) c.table.ensures) in
    let here = poolable_with c.get-schema.result.now _ c.table-in-loop-table.result.now c.table-item.result schema c.table-in-loop-table.ensures (OnTrue_at c.if-not-is_poolable_with.false c.is_poolable_with.ensures) in
    All-more (IsPoolable (get_or ts 0 no_table).schema) ts c.loop-table.table-index c.table-item.result c.loop-table-test.true c.loop-table.invariant
    (subst (IsPoolable (get_or ts 0 no_table).schema) c.table-item.is here)

pub returns : goal.returns
returns c =
    let ts = c.args.tables.now in
    All-same (IsPoolable (get_or ts 0 no_table).schema) ts _ (sym (take_all c.loop-table.table-index ts (omega arith))) c.loop-table.invariant
