use Rattle.std.proofs.Common.{map, ap, ◌∙◌}
use Rattle.relations.specs.Columns.{column_of}
use Rattle.relations.specs.Refusals.{absent}
use Rattle.relations.specs.Rows.{once}
use Rattle.grouping.proofs.KeyColumns.{keys_here, keys_plain, plain_here, rows_are}
use Rattle.grouping.proofs.keyed.table_keys.Goals as goal

pub named_columns-requires : goal.named_columns-requires
named_columns-requires g c = ap (λ s. absent s c.args.keys.now) c.schema.ensures.value ∙ c.requires.named

pub of-requires : goal.of-requires
of-requires g c =
    let schema = c.args.table.now.schema in
    plain_here schema (once c.args.keys.now) (keys_here schema c.args.keys.now c.requires.named) c.in_ok-columns.columns
    (c.in_ok-columns.ensures ∙ ap (λ s. map (column_of s) (once c.args.keys.now)) c.schema.ensures.value) (keys_plain schema c.args.keys.now c.requires.plain)

pub returns : goal.returns
returns g c =
    let schema = c.args.table.now.schema in
    c.of.ensures
    ∙ rows_are schema (once c.args.keys.now) (keys_here schema c.args.keys.now c.requires.named) c.in_ok-columns.columns
    (c.in_ok-columns.ensures ∙ ap (λ s. map (column_of s) (once c.args.keys.now)) c.schema.ensures.value) c.args.table.now.rows
