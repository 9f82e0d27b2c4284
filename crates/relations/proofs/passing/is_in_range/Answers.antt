use Rattle.std.proofs.Common.{map, ap, sym, ◌∙◌}
use Rattle.relations.specs.Columns.{column_of}
use Rattle.relations.specs.Criteria.{Interval}
use Rattle.relations.proofs.Asking.{within, outside}
use Rattle.relations.proofs.Looking.{criterion_present, criterion_asks, resolved, column_read}
use Rattle.relations.proofs.passing.is_in_range.Goals as goal

pub column-col-requires : goal.column-col-requires
column-col-requires g c =
    criterion_present (g.T.TableRead.schema c.args.table.now) c.schema.result.now c.args.criteria.now c.loop-at.at c.index-criteria-at.result c.criterion.inside.prop c.requires.asked c.loop-at-test.true c.index-criteria-at.is
    c.schema.ensures.value (ap (λ (b : Interval). b.prop) c.criterion.view_is)

pub is_within-requires : goal.is_within-requires
is_within-requires g c =
    let asks = criterion_asks (g.T.TableRead.schema c.args.table.now) c.schema.result.now c.args.criteria.now c.loop-at.at c.index-criteria-at.result c.criterion.inside.prop c.requires.asked c.loop-at-test.true c.index-criteria-at.is
    c.schema.ensures.value (ap (λ (b : Interval). b.prop) c.criterion.view_is) c.column-col.result c.column-col.ensures.value in
    record { row_in = c.requires.row_in; col_in = asks.0; low = asks.1; high = asks.2 }

pub returns-then-not-is_within : goal.returns-then-not-is_within
returns-then-not-is_within g c =
    let schema = g.T.TableRead.schema c.args.table.now in
    let whole = resolved schema c.schema.result.now c.args.criteria.now c.loop-at.at c.index-criteria-at.result c.criterion.inside.prop c.requires.asked c.loop-at-test.true c.index-criteria-at.is
    c.schema.ensures.value (ap (λ (b : Interval). b.prop) c.criterion.view_is) c.column-col.result c.column-col.ensures.value in
    let read = column_read schema c.schema.result.now c.args.criteria.now c.loop-at.at c.index-criteria-at.result c.criterion.inside.prop c.requires.asked c.loop-at-test.true c.index-criteria-at.is
    c.schema.ensures.value (ap (λ (b : Interval). b.prop) c.criterion.view_is) c.column-col.result c.column-col.ensures.value in
    sym (sym c.loop-at.invariant ∙ outside schema c.args.criteria.now (map (λ (b : Interval). column_of schema b.prop) c.args.criteria.now) (g.T.TableRead.rows c.args.table.now) c.args.row c.loop-at.at c.column-col.result c.index-criteria-at.result
    whole c.loop-at-test.true c.index-criteria-at.is read (sym c.is_within.ensures ∙ c.if-not-is_within.true))

pub loop-at-preserved : goal.loop-at-preserved
loop-at-preserved g c =
    let schema = g.T.TableRead.schema c.args.table.now in
    let whole = resolved schema c.schema.result.now c.args.criteria.now c.loop-at.at c.index-criteria-at.result c.criterion.inside.prop c.requires.asked c.loop-at-test.true c.index-criteria-at.is
    c.schema.ensures.value (ap (λ (b : Interval). b.prop) c.criterion.view_is) c.column-col.result c.column-col.ensures.value in
    let read = column_read schema c.schema.result.now c.args.criteria.now c.loop-at.at c.index-criteria-at.result c.criterion.inside.prop c.requires.asked c.loop-at-test.true c.index-criteria-at.is
    c.schema.ensures.value (ap (λ (b : Interval). b.prop) c.criterion.view_is) c.column-col.result c.column-col.ensures.value in
    within schema c.args.criteria.now (map (λ (b : Interval). column_of schema b.prop) c.args.criteria.now) (g.T.TableRead.rows c.args.table.now) c.args.row c.loop-at.at c.column-col.result c.index-criteria-at.result
    whole c.loop-at-test.true c.index-criteria-at.is read (sym c.is_within.ensures ∙ c.if-not-is_within.false)
    ∙ c.loop-at.invariant
