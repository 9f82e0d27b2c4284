use Rattle.std.proofs.Common.{◌≡◌, ◌+◌, ◌-◌, ℕ, take, sym, ap, ◌∙◌, arith}
use Rattle.bytes_col.proofs.Orders.{same_more, same_less}
use Rattle.bytes_col.proofs.order.alike.Goals as goal

pub loop-at-preserved : goal.loop-at-preserved
loop-at-preserved c = record {
  near = omega (arith, c.loop-at-test.true);
  same = same_more c.loop-at.at 32 c.args.a.now c.args.b.now c.loop-at.invariant.same c.if-block_is_same.ensures;
}

pub returns-clause-same : goal.returns-clause-same
returns-clause-same c =
    let xs = c.args.a.now in
    let ys = c.args.b.now in
    let last : ℕ = c.min-both.result - 32 in
    let end : last + 32 ≡ c.min-both.result = omega (arith, c.if-both-lt-BLOCK.false) in
    ap (λ n. take n xs) (sym end)
    ∙ same_more last 32 xs ys (same_less last c.loop-at.at xs ys c.if-at-last.false c.loop-at.invariant.same) c.if-not-block_is_same.ensures
    ∙ ap (λ n. take n ys) end
