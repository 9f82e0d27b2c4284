use Rattle.std.proofs.Common.{length, ap, arith}
use Rattle.computing.proofs.Fewer.{shorter}
use Rattle.computing.proofs.computing.Computing.take_out.Goals as goal

pub invariant_of-self : goal.invariant_of-self
invariant_of-self c =
    let name = c.args.name.now in
    let filters = shorter c.self.inside.filters.items name in
    let counts = shorter c.self.inside.counts.items name in
    let first = ap length c.take_out_first.ensures in
    let second = ap length c.take_out_first-2.ensures in
    let few = c.self.invariant in
    omega (arith, filters, counts, first, second, few)
