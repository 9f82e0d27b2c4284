use Rattle.std.proofs.Common.{map, refl, ap, sym, ◌∙◌}
use Rattle.derived.specs.Layers.{table_of}
use Rattle.relations.specs.Columns.{column_of, properties_at}
use Rattle.derived.specs.Refusals.{without_due}
use Rattle.relations.specs.Rows.{others}
use Rattle.relations.proofs.Headings.{others_here}
use Rattle.derived.proofs.Projections.{others_whole}
use Rattle.relations.proofs.Projections.{are_columns, only_here}
use Rattle.relations.proofs.Faults.{done_due}
use Rattle.derived.proofs.columns.without.Goals as goal

pub schema_of_columns-requires : goal.schema_of_columns-requires
schema_of_columns-requires g c =
    let none = ap (λ s. without_due c.args.props.now s) (sym c.schema.ensures.value) ∙ sym c.in_ok-check_without.ensures in
    let columns = c.in_ok-columns.ensures ∙ ap (λ s. map (column_of s) (others s c.args.props.now)) c.schema-2.ensures.value in
    let both = others_whole c.args.base.schema c.schema-3.result.now c.args.props.now c.in_ok-columns.columns c.schema-3.ensures.value c.schema.ensures.whole none columns in
    record { whole = both.0; in_range = both.1 }

pub with_columns-requires : goal.with_columns-requires
with_columns-requires g c =
    let none = ap (λ s. without_due c.args.props.now s) (sym c.schema.ensures.value) ∙ sym c.in_ok-check_without.ensures in
    let columns = c.in_ok-columns.ensures ∙ ap (λ s. map (column_of s) (others s c.args.props.now)) c.schema-2.ensures.value in
    let both = others_whole c.args.base.schema c.args.base.schema c.args.props.now c.in_ok-columns.columns refl c.schema.ensures.whole none columns in
    are_columns c.args.base.schema c.in_ok-schema.schema c.in_ok-columns.columns both.1 (c.in_ok-schema.ensures ∙ ap (λ s. properties_at s c.in_ok-columns.columns) c.schema-3.ensures.value)

pub returns : goal.returns
returns g c =
    let none = ap (λ s. without_due c.args.props.now s) (sym c.schema.ensures.value) ∙ sym c.in_ok-check_without.ensures in
    let columns = c.in_ok-columns.ensures ∙ ap (λ s. map (column_of s) (others s c.args.props.now)) c.schema-2.ensures.value in
    record {
      due = done_due (without_due c.args.props.now c.args.base.schema) c.in_ok-with_columns.field-0 none;
      ok = only_here c.args.base.schema c.in_ok-schema.schema c.args.base.rows (others c.args.base.schema c.args.props.now) c.in_ok-columns.columns (others_here c.args.base.schema c.args.props.now) columns
          (c.in_ok-schema.ensures ∙ ap (λ s. properties_at s c.in_ok-columns.columns) c.schema-3.ensures.value) (table_of c.in_ok-with_columns.field-0) c.in_ok-with_columns.ensures;
    }
