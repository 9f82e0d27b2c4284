use Rattle.std.proofs.Common.{arith}
use Rattle.int_col.proofs.Columns.{least-more}
use Rattle.int_col.proofs.spine.widest.Goals as goal

pub loop-k-preserved : goal.loop-k-preserved
loop-k-preserved c =
    least-more c.args.segments.now c.loop-k.k c.get.result.now c.loop-k.width c.width.result c.wider-width.result
    (omega (arith, c.loop-k-test.true, c.len-k-end.ensures.len)) c.get.ensures c.loop-k.invariant c.width.ensures c.wider-width.ensures
