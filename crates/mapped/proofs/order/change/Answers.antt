use Rattle.std.proofs.Common.{arith}
use Rattle.mapped.proofs.Moving.{few_ordered}
use Rattle.mapped.proofs.order.change.Goals as goal

pub enter-requires-clause-few : goal.enter-requires-clause-few
enter-requires-clause-few c =
    let few = few_ordered c.args.keys.now.items c.args.order.now.list c.requires.index.ordered.ordered in
    let whole = c.requires.index.whole.few in
    let left = c.leave.ensures.fewer in
    omega arith
