use Rattle.std.proofs.Common.{ℕ, [], length, get_or, take, sym, ◌∙◌, arith}
use Rattle.mapped.proofs.Prefixes.{beside}
use Rattle.mk_value.proofs.Cells.{row_length}
use Rattle.mapped.proofs.Prefixes.{decides, ties}
use Rattle.mapped.proofs.probe.cmp_with_key.Goals as goal

pub returns-then-is_ne : goal.returns-then-is_ne
returns-then-is_ne g c =
    let rows = g.T.TableRead.rows c.args.rows.now in
    let key = c.args.key.now in
    let at : ℕ = c.loop-at.at in
    let row = get_or rows c.args.row [] in
    let long = row_length rows (g.T.TableRead.schema c.args.rows.now) c.args.row c.size-size.ensures.whole c.requires.row_in in
    let b = beside row key c.as_slice-values.result.now at c.index-values-at.result c.as_slice-values.ensures c.loop-at-test.true c.index-values-at.is (omega (arith, c.requires.key.few, long)) c.cmp_cell-order.result c.cmp_cell-order.ensures in
    decides (take (length key) row) key at b.0 b.1 c.cmp_cell-order.result b.2 (sym c.is_ne.ensures ∙ c.if-is_ne.true) c.loop-at.invariant

pub loop-at-preserved : goal.loop-at-preserved
loop-at-preserved g c =
    let rows = g.T.TableRead.rows c.args.rows.now in
    let key = c.args.key.now in
    let at : ℕ = c.loop-at.at in
    let row = get_or rows c.args.row [] in
    let long = row_length rows (g.T.TableRead.schema c.args.rows.now) c.args.row c.size-size.ensures.whole c.requires.row_in in
    let b = beside row key c.as_slice-values.result.now at c.index-values-at.result c.as_slice-values.ensures c.loop-at-test.true c.index-values-at.is (omega (arith, c.requires.key.few, long)) c.cmp_cell-order.result c.cmp_cell-order.ensures in
    ties (take (length key) row) key at b.0 b.1 c.cmp_cell-order.result b.2 (sym c.is_ne.ensures ∙ c.if-is_ne.false) c.loop-at.invariant
