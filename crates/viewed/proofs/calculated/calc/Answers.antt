use Rattle.std.proofs.Common.{List, [], ◌++◌, ◌∷◌, map, ap, subst, sym, ◌∙◌}
use Rattle.mk_value.specs.Data.{AreRowsOf}
use Rattle.mk_value.specs.Heading.{Domain, Attribute, IsWithinLimits}
use Rattle.derived.specs.Layers.{table_of}
use Rattle.derived.specs.Viewing.{calc_due}
use Rattle.relations.specs.Columns.{column_of}
use Rattle.relations.specs.Refusals.{absent}
use Rattle.relations.proofs.Faults.{done_due}
use Rattle.viewed.specs.Asking.{answered}
use Rattle.viewed.proofs.Dues.{is_free, may_ask, args_here, args_present}
use Rattle.viewed.proofs.Made.{calculated, limits_with, rows_with}
use Rattle.viewed.proofs.calculated.calc.Goals as goal

pub columns_of-requires : goal.columns_of-requires
columns_of-requires g c =
    let viewer = c.args.viewer.now in
    let due = ap (λ s. calc_due (g.V.Viewer.meaning viewer).name (g.V.Viewer.meaning viewer).takes c.args.args.now c.args.new.now (record { schema = s; rows = [] })) (sym c.schema.ensures.value) ∙ sym c.in_ok-check_calc.ensures in
    let free = is_free (g.V.Viewer.meaning viewer).name (g.V.Viewer.meaning viewer).takes c.args.args.now c.args.new.now (table_of c.args.base) due in
    ap (λ s. absent s c.args.args.now) c.schema-2.ensures.value ∙ args_present (g.V.Viewer.meaning viewer).name (g.V.Viewer.meaning viewer).takes c.args.args.now c.args.base.schema free.asked

pub schema_with-requires : goal.schema_with-requires
schema_with-requires g c =
    let viewer = c.args.viewer.now in
    let due = ap (λ s. calc_due (g.V.Viewer.meaning viewer).name (g.V.Viewer.meaning viewer).takes c.args.args.now c.args.new.now (record { schema = s; rows = [] })) (sym c.schema.ensures.value) ∙ sym c.in_ok-check_calc.ensures in
    let free = is_free (g.V.Viewer.meaning viewer).name (g.V.Viewer.meaning viewer).takes c.args.args.now c.args.new.now (table_of c.args.base) due in
    subst (λ s. IsWithinLimits (s ++ record { name = c.args.new.now; domain = Domain.long } ∷ [])) (sym c.schema-3.ensures.value)
    (limits_with c.args.base.schema c.args.new.now c.schema.ensures.whole free.other free.few)

pub answered_rows-requires : goal.answered_rows-requires
answered_rows-requires g c =
    let viewer = c.args.viewer.now in
    let due = ap (λ s. calc_due (g.V.Viewer.meaning viewer).name (g.V.Viewer.meaning viewer).takes c.args.args.now c.args.new.now (record { schema = s; rows = [] })) (sym c.schema.ensures.value) ∙ sym c.in_ok-check_calc.ensures in
    let free = is_free (g.V.Viewer.meaning viewer).name (g.V.Viewer.meaning viewer).takes c.args.args.now c.args.new.now (table_of c.args.base) due in
    may_ask (g.V.Viewer.meaning viewer).name (g.V.Viewer.meaning viewer).takes c.args.args.now c.args.base.schema c.in_ok-columns.columns free.asked
    (c.in_ok-columns.ensures ∙ ap (λ s. map (column_of s) c.args.args.now) c.schema-2.ensures.value)

pub held-requires : goal.held-requires
held-requires g c =
    let gives = (g.V.Viewer.meaning c.args.viewer.now).gives in
    let last : Attribute = record { name = c.args.new.now; domain = Domain.long } in
    let schema = c.in_ok-schema.ensures ∙ ap (λ (s : List Attribute). s ++ last ∷ []) c.schema-3.ensures.value in
    subst (λ rs. AreRowsOf rs c.in_ok-schema.schema) (sym c.in_ok-rows.ensures.value)
    (subst (AreRowsOf (map (answered gives c.in_ok-columns.columns) c.args.base.rows)) (sym schema)
    (rows_with c.args.base.rows c.args.base.schema c.args.new.now gives c.in_ok-columns.columns c.size-size.ensures.whole c.in_ok-rows.ensures.fits))

pub returns : goal.returns
returns g c =
    let viewer = c.args.viewer.now in
    let due = ap (λ s. calc_due (g.V.Viewer.meaning viewer).name (g.V.Viewer.meaning viewer).takes c.args.args.now c.args.new.now (record { schema = s; rows = [] })) (sym c.schema.ensures.value) ∙ sym c.in_ok-check_calc.ensures in
    let free = is_free (g.V.Viewer.meaning viewer).name (g.V.Viewer.meaning viewer).takes c.args.args.now c.args.new.now (table_of c.args.base) due in
    let last : Attribute = record { name = c.args.new.now; domain = Domain.long } in
    let schema = c.in_ok-schema.ensures ∙ ap (λ (s : List Attribute). s ++ last ∷ []) c.schema-3.ensures.value in
    let columns = c.in_ok-columns.ensures ∙ ap (λ s. map (column_of s) c.args.args.now) c.schema-2.ensures.value in
    record {
      due = done_due (calc_due (g.V.Viewer.meaning viewer).name (g.V.Viewer.meaning viewer).takes c.args.args.now c.args.new.now (table_of c.args.base)) c.in_ok-held.field-0 due;
      ok = c.in_ok-held.ensures
          ∙ calculated (table_of c.args.base) (g.V.Viewer.meaning viewer).gives c.args.args.now c.args.new.now c.in_ok-columns.columns c.in_ok-schema.schema c.in_ok-rows.rows
          (args_here (g.V.Viewer.meaning viewer).name (g.V.Viewer.meaning viewer).takes c.args.args.now c.args.base.schema free.asked) columns schema c.in_ok-rows.ensures.value;
    }
