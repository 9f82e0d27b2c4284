use Rattle.std.proofs.Common.{length, arith}
use Rattle.bit_pack.proofs.Changes.{values_from-made}
use Rattle.bit_pack.proofs.runs.read_run.Goals as goal

pub returns : goal.returns
returns g c =
    let n = length c.args.into.now in
    values_from-made g.L.Lane.width c.args.bytes.now c.args.from n c.loop-i.into (omega arith) (λ k within. c.loop-i.invariant k (omega arith))
