use Rattle.std.proofs.Common.{◌-◌, arith}
use Rattle.segments.proofs.Counts.{length-counts_from}
use Rattle.segments.proofs.Places.{segment_order, end_above}
use Rattle.segments.proofs.segments.Segments.after_replaced.Goals as goal

pub overflow_add-result : goal.overflow_add-result
overflow_add-result g c =
    let place = rw (← c.self.view_is) at c.find.ensures.segment in
    omega (arith, length-counts_from 0 c.self.inside.ends.items)

pub returns-else-end-start-clause-order : goal.returns-else-end-start-clause-order
returns-else-end-start-clause-order g c =
    segment_order c.args.self.now c.args.first (c.args.end - 1) c.find.result c.find.ensures (omega arith)

pub returns-else-end-start-clause-behind : goal.returns-else-end-start-clause-behind
returns-else-end-start-clause-behind g c =
    omega (arith, end_above c.args.self.now (c.args.end - 1) c.find.result c.find.ensures)
