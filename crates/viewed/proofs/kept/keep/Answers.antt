use Rattle.std.proofs.Common.{List, [], length, map, ap, sym, ◌∙◌, arith, subst, All, ◌<◌}
use Rattle.mk_value.specs.Data.{Datum}
use Rattle.derived.specs.Viewing.{keep_due}
use Rattle.derived.specs.Layers.{table_of}
use Rattle.relations.specs.Columns.{column_of}
use Rattle.relations.specs.Refusals.{absent}
use Rattle.relations.specs.Rows.{rows_at}
use Rattle.relations.proofs.Faults.{done_due}
use Rattle.relations.proofs.Filtering.{passing_few, passing_in, rows_passing}
use Rattle.viewed.specs.Asking.{is_kept}
use Rattle.viewed.proofs.Dues.{args_here, args_present, may_ask}
use Rattle.viewed.proofs.Made.{kept_rows}
use Rattle.viewed.proofs.kept.keep.Goals as goal

pub columns_of-requires : goal.columns_of-requires
columns_of-requires g c =
    let viewer = c.args.viewer.now in
    let due = ap (keep_due (g.V.Viewer.meaning viewer).name (g.V.Viewer.meaning viewer).takes c.args.args.now) (sym c.schema.ensures.value) ∙ sym c.in_ok-check_keep.ensures in
    ap (λ s. absent s c.args.args.now) c.schema-2.ensures.value ∙ args_present (g.V.Viewer.meaning viewer).name (g.V.Viewer.meaning viewer).takes c.args.args.now c.args.base.schema due

pub kept_positions-requires : goal.kept_positions-requires
kept_positions-requires g c =
    let viewer = c.args.viewer.now in
    let due = ap (keep_due (g.V.Viewer.meaning viewer).name (g.V.Viewer.meaning viewer).takes c.args.args.now) (sym c.schema.ensures.value) ∙ sym c.in_ok-check_keep.ensures in
    may_ask (g.V.Viewer.meaning viewer).name (g.V.Viewer.meaning viewer).takes c.args.args.now c.args.base.schema c.in_ok-columns.columns due
    (c.in_ok-columns.ensures ∙ ap (λ s. map (column_of s) c.args.args.now) c.schema-2.ensures.value)

pub gather-requires : goal.gather-requires
gather-requires g c =
    let test = is_kept (g.V.Viewer.meaning c.args.viewer.now).gives c.in_ok-columns.columns in
    let same = c.in_ok-positions.ensures in
    let long = ap length same in
    let few = passing_few test [] c.args.base.rows in
    let whole = c.size-size.ensures.whole.few in
    record {
      few = omega arith;
      in_range = subst (λ ps. All (λ i. i < length c.args.base.rows) ps) (sym same) (passing_in test [] c.args.base.rows);
    }

pub returns : goal.returns
returns g c =
    let viewer = c.args.viewer.now in
    let gives = (g.V.Viewer.meaning viewer).gives in
    let due = ap (keep_due (g.V.Viewer.meaning viewer).name (g.V.Viewer.meaning viewer).takes c.args.args.now) (sym c.schema.ensures.value) ∙ sym c.in_ok-check_keep.ensures in
    let columns = c.in_ok-columns.ensures ∙ ap (λ s. map (column_of s) c.args.args.now) c.schema-2.ensures.value in
    let here = args_here (g.V.Viewer.meaning viewer).name (g.V.Viewer.meaning viewer).takes c.args.args.now c.args.base.schema due in
    record {
      due = done_due (keep_due (g.V.Viewer.meaning viewer).name (g.V.Viewer.meaning viewer).takes c.args.args.now c.args.base.schema) c.in_ok-gather.field-0 due;
      ok = c.in_ok-gather.ensures ∙ ap (λ (rows : List (List Datum)). record { schema = c.args.base.schema; rows = rows })
          (ap (rows_at c.args.base.rows) c.in_ok-positions.ensures ∙ rows_passing (is_kept gives c.in_ok-columns.columns) [] c.args.base.rows
          ∙ kept_rows (table_of c.args.base) gives c.args.args.now c.in_ok-columns.columns here columns);
    }
