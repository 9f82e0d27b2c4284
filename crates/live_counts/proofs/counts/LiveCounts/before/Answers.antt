use Rattle.std.proofs.Common.{◌-◌, length, arith}
use Rattle.live.proofs.Digits.{digits_bound}
use Rattle.live_counts.proofs.counts.LiveCounts.before.Goals as goal

pub returns-clause-cost : goal.returns-clause-cost
returns-clause-cost g c =
    let few = digits_bound (c.before-2.new.steps - c.args.steps.now) (length (g.P.Probe.rows c.args.rows.now)) c.before-2.ensures.cost in
    let least = c.before-2.ensures.least in
    omega arith
