use Rattle.std.proofs.Common.{not, ap, sym, ◌∙◌, arith}
use Rattle.mapped.proofs.Keyed.{unordered_at, unordered_first, unordered_none}
use Rattle.mapped.proofs.ordered.first_unordered.Goals as goal

pub returns-then-not-is_lt : goal.returns-then-not-is_lt
returns-then-not-is_lt g c =
    let rows = g.T.TableRead.rows c.args.rows.now in
    let t = c.loop-row-test.true in
    let start = c.loop-row.auto.row in
    let size = c.size-row-end.ensures.value in
    unordered_first c.args.keys rows c.loop-row.row (omega arith)
    (unordered_at c.args.keys rows c.loop-row.row c.cmp_rows_by_key.result (omega arith) (omega arith) c.cmp_rows_by_key.ensures ∙ ap not (sym c.is_lt.ensures ∙ c.if-not-is_lt.true))
    c.loop-row.invariant

pub returns : goal.returns
returns g c =
    let rows = g.T.TableRead.rows c.args.rows.now in
    let t = c.loop-row-test.false in
    let size = c.size-row-end.ensures.value in
    unordered_none c.args.keys rows (λ k p. c.loop-row.invariant k (omega arith))
