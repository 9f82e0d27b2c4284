use Rattle.std.proofs.Common.{List, All, ◌∙◌, ap, sym, subst}
use Rattle.mk_value.specs.Heading.{Attribute}
use Rattle.tables.specs.Pools.{IsPoolable}
use Rattle.tables.specs.Tables.{StoredTable}
use Rattle.tables.proofs.Poolable.{first_schema}
use Rattle.tables.proofs.chunk.pooled_chunk.Goals as goal

pub of-requires-clause-each : goal.of-requires-clause-each
of-requires-clause-each c =
    let ts = c.args.tables.now in
    let schema = first_schema ts c.index-tables-0.result c.shared_schema-schema.result.now c.requires.some c.index-tables-0.is (c.shared_schema-schema.ensures ∙ ap (λ (t : StoredTable). t.schema) c.table.ensures) in
    subst (λ (s : List Attribute). All (IsPoolable s) ts) (sym schema) c.requires.each
