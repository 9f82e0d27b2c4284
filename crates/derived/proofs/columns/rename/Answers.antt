use Rattle.std.proofs.Common.{map, ap, sym, ◌∙◌}
use Rattle.derived.specs.Layers.{table_of}
use Rattle.relations.specs.Positions.{numbers}
use Rattle.derived.specs.Operators.{renamed}
use Rattle.derived.specs.Refusals.{rename_due}
use Rattle.derived.proofs.Renaming.{all_columns_fit, rename_here}
use Rattle.relations.proofs.Faults.{done_due}
use Rattle.derived.proofs.columns.rename.Goals as goal

pub with_columns-requires : goal.with_columns-requires
with_columns-requires g c =
    let properties = c.in_ok-schema.ensures ∙ ap (map (renamed c.args.from.now c.args.to.now)) c.schema-2.ensures.value in
    let columns = c.in_ok-columns.ensures ∙ ap numbers c.len.ensures.value in
    all_columns_fit c.args.from.now c.args.to.now c.args.base.schema c.in_ok-schema.schema c.in_ok-columns.columns properties columns

pub returns : goal.returns
returns g c =
    let none = ap (rename_due c.args.from.now c.args.to.now) (sym c.schema.ensures.value) ∙ sym c.in_ok-check_rename.ensures in
    let properties = c.in_ok-schema.ensures ∙ ap (map (renamed c.args.from.now c.args.to.now)) c.schema-2.ensures.value in
    let columns = c.in_ok-columns.ensures ∙ ap numbers c.len.ensures.value in
    record {
      due = done_due (rename_due c.args.from.now c.args.to.now c.args.base.schema) c.in_ok-with_columns.field-0 none;
      ok = rename_here c.args.from.now c.args.to.now c.args.base.schema c.in_ok-schema.schema c.args.base.rows c.in_ok-columns.columns c.size-size.ensures.whole properties columns
          (table_of c.in_ok-with_columns.field-0) c.in_ok-with_columns.ensures;
    }
