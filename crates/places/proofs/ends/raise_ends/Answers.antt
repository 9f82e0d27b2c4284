use Rattle.std.proofs.Common.{◌+◌, arith}
use Rattle.places.proofs.Stops.{behind_more}
use Rattle.places.proofs.ends.raise_ends.Goals as goal

pub loop-k-preserved : goal.loop-k-preserved
loop-k-preserved c =
    let t = c.loop-k-test.true in
    let a = c.loop-k.auto.k in
    behind_more (λ e. e + c.args.by) c.args.ends.now c.loop-k.ends c.args.from c.loop-k.k (omega arith) (omega arith) c.loop-k.invariant
