use Rattle.std.proofs.Common.{◌+◌, ◌≤◌, take}
use Rattle.std.specs.List.{sum_by}
use Rattle.live.specs.Costs.{before_cost}
use Rattle.live.proofs.Noting.{HaveNoted}
use Rattle.live.proofs.chain.before_all.Given as goal

abbrev pub invariant-loop-i : goal.invariant-loop-i
invariant-loop-i g l = record {
  noted : HaveNoted l.goes l.fn.watches l.watches l.i;
  cost : l.steps ≤ l.fn.steps + sum_by (before_cost (g.P.Probe.rows l.rows) l.fn.watches) (take l.i l.fn.watches);
}
