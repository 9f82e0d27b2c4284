use Rattle.std.proofs.Common.{◌+◌, ◌-◌, ◌/◌, [], ap, sym, ◌∙◌, arith}
use Rattle.std.specs.Ordering.{is_lt}
use Rattle.relations.specs.Searching.{asked_cmp}
use Rattle.relations.proofs.Halving.{before_all, behind_all, count_front}
use Rattle.relations.proofs.searching.lower.Goals as goal

pub loop-low-preserved-then-is_lt : goal.loop-low-preserved-then-is_lt
loop-low-preserved-then-is_lt g c =
    let rows = g.T.TableRead.rows c.args.table.now in
    let middle = c.loop-low.low + (c.loop-low.high - c.loop-low.low) / 2 in
    let t = c.loop-low-test.true in
    let low = c.loop-low.invariant.0 in
    let high = c.loop-low.invariant.1 in
    let here = ap is_lt (sym c.cmp_asked.ensures) ∙ sym c.is_lt.ensures ∙ c.if-is_lt.true in
    (omega arith, high, (λ k p. before_all (g.T.TableRead.schema c.args.table.now) c.args.keys.now c.args.criteria.now rows c.requires.named c.requires.ordered k middle (omega arith) (omega arith) here), c.loop-low.invariant.3)

pub loop-low-preserved : goal.loop-low-preserved
loop-low-preserved g c =
    let rows = g.T.TableRead.rows c.args.table.now in
    let middle = c.loop-low.low + (c.loop-low.high - c.loop-low.low) / 2 in
    let t = c.loop-low-test.true in
    let low = c.loop-low.invariant.0 in
    let high = c.loop-low.invariant.1 in
    let here = ap is_lt (sym c.cmp_asked.ensures) ∙ sym c.is_lt.ensures ∙ c.if-is_lt.false in
    (omega arith, omega arith, c.loop-low.invariant.2, λ k p q. behind_all (g.T.TableRead.schema c.args.table.now) c.args.keys.now c.args.criteria.now rows c.requires.named c.requires.ordered middle k p q here)

pub returns : goal.returns
returns g c =
    let rows = g.T.TableRead.rows c.args.table.now in
    let t = c.loop-low-test.false in
    let low = c.loop-low.invariant.0 in
    let high = c.loop-low.invariant.1 in
    count_front (λ row. is_lt (asked_cmp (g.T.TableRead.schema c.args.table.now) c.args.keys.now c.args.criteria.now row)) rows [] c.loop-low.low (omega arith) c.loop-low.invariant.2
    (λ k p q. c.loop-low.invariant.3 k (omega arith) q)
