use Rattle.std.proofs.Common.{◌⊎◌, ◌≤◌, length, [], get_or, ap, sym, ◌∙◌, inl, inr, arith}
use Rattle.mk_value.specs.Tables.{IsComparable, domain_at}
use Rattle.std.proofs.Common.{subst}
use Rattle.mk_value.specs.Order.{turned}
use Rattle.relations.specs.declared.criteria.Key.{Key}
use Rattle.relations.specs.Criteria.{Interval}
use Rattle.relations.proofs.Looking.{criterion_present, criterion_asks, criterion_value, asked_decides, asked_ties, asked_end}
use Rattle.relations.proofs.Walked.{min_ends}
use Rattle.relations.proofs.searching.cmp_asked.Goals as goal

pub column-col-requires : goal.column-col-requires
column-col-requires g c =
    let ends = min_ends (length c.args.keys.now) (length c.args.criteria.now) c.min-at-end.result c.min-at-end.ensures in
    let t = c.loop-at-test.true in
    criterion_present (g.T.TableRead.schema c.args.table.now) c.schema.result.now c.args.criteria.now c.loop-at.at c.index-criteria-at.result c.criterion.inside.prop c.requires.asked (omega arith) c.index-criteria-at.is
    c.schema.ensures.value (ap (λ (b : Interval). b.prop) c.criterion.view_is)

pub cmp_cell-order-requires : goal.cmp_cell-order-requires
cmp_cell-order-requires g c =
    let ends = min_ends (length c.args.keys.now) (length c.args.criteria.now) c.min-at-end.result c.min-at-end.ensures in
    let t = c.loop-at-test.true in
    let asks = criterion_asks (g.T.TableRead.schema c.args.table.now) c.schema.result.now c.args.criteria.now c.loop-at.at c.index-criteria-at.result c.criterion.inside.prop c.requires.asked (omega arith) c.index-criteria-at.is
    c.schema.ensures.value (ap (λ (b : Interval). b.prop) c.criterion.view_is) c.column-col.result c.column-col.ensures.value in
    record {
      row_in = c.requires.row_in;
      col_in = asks.0;
      comparable = subst (λ d. IsComparable d (domain_at (g.T.TableRead.schema c.args.table.now) c.column-col.result)) (sym (ap (λ (b : Interval). b.low) c.criterion.view_is)) asks.1;
    }

pub returns-then-is_ne : goal.returns-then-is_ne
returns-then-is_ne g c =
    let schema = g.T.TableRead.schema c.args.table.now in
    let row = get_or (g.T.TableRead.rows c.args.table.now) c.args.row [] in
    let ends = min_ends (length c.args.keys.now) (length c.args.criteria.now) c.min-at-end.result c.min-at-end.ensures in
    let t = c.loop-at-test.true in
    let value = criterion_value schema c.schema.result.now c.args.criteria.now c.loop-at.at c.index-criteria-at.result c.criterion.inside.prop c.requires.asked (omega arith) c.index-criteria-at.is
    c.schema.ensures.value (ap (λ (b : Interval). b.prop) c.criterion.view_is) c.column-col.result c.column-col.ensures.value row in
    c.turned.ensures
    ∙ ap (λ (k : Key). turned k.down c.cmp_cell-order.result) (sym c.index-keys-at.is)
    ∙ asked_decides schema c.args.keys.now c.args.criteria.now c.loop-at.at row _ _ c.cmp_cell-order.result c.index-criteria-at.result (omega arith) (omega arith) c.index-criteria-at.is
    value (ap (λ (b : Interval). b.low) c.criterion.view_is) c.cmp_cell-order.ensures c.index-keys-at.result c.index-keys-at.is (sym c.is_ne.ensures ∙ c.if-is_ne.true) c.loop-at.invariant

pub loop-at-preserved : goal.loop-at-preserved
loop-at-preserved g c =
    let schema = g.T.TableRead.schema c.args.table.now in
    let row = get_or (g.T.TableRead.rows c.args.table.now) c.args.row [] in
    let ends = min_ends (length c.args.keys.now) (length c.args.criteria.now) c.min-at-end.result c.min-at-end.ensures in
    let t = c.loop-at-test.true in
    let value = criterion_value schema c.schema.result.now c.args.criteria.now c.loop-at.at c.index-criteria-at.result c.criterion.inside.prop c.requires.asked (omega arith) c.index-criteria-at.is
    c.schema.ensures.value (ap (λ (b : Interval). b.prop) c.criterion.view_is) c.column-col.result c.column-col.ensures.value row in
    asked_ties schema c.args.keys.now c.args.criteria.now c.loop-at.at row _ _ c.cmp_cell-order.result c.index-criteria-at.result (omega arith) (omega arith) c.index-criteria-at.is
    value (ap (λ (b : Interval). b.low) c.criterion.view_is) c.cmp_cell-order.ensures (sym c.is_ne.ensures ∙ c.if-is_ne.false) c.loop-at.invariant

pub returns : goal.returns
returns g c =
    let ends = min_ends (length c.args.keys.now) (length c.args.criteria.now) c.min-at-end.result c.min-at-end.ensures in
    let t = c.loop-at-test.false in
    let more : (length c.args.keys.now ≤ c.loop-at.at) ⊎ (length c.args.criteria.now ≤ c.loop-at.at) = elim ends.2 [ inl p ↦ inl (omega arith) | inr p ↦ inr (omega arith) ] in
    sym (c.loop-at.invariant ∙ asked_end (g.T.TableRead.schema c.args.table.now) c.args.keys.now c.args.criteria.now (get_or (g.T.TableRead.rows c.args.table.now) c.args.row []) c.loop-at.at more)
