use Rattle.std.proofs.Common.{◌+◌, ◌≤◌, take}
use Rattle.std.specs.List.{sum_by}
use Rattle.live.specs.Chains.{AreDue}
use Rattle.live.specs.Costs.{after_cost}
use Rattle.live.proofs.Following.{AreFollowed}
use Rattle.live.proofs.chain.after_all.Given as goal

abbrev pub invariant-loop-i : goal.invariant-loop-i
invariant-loop-i g l = record {
  followed : (due : AreDue (g.P.Probe.schema l.rows) l.fn.watches l.root (g.P.Probe.rows l.rows)) → AreFollowed (g.P.Probe.schema l.rows) (g.P.Probe.rows l.rows) l.root due.before l.fn.watches l.watches l.i;
  cost : l.steps ≤ l.fn.steps + sum_by (after_cost (g.P.Probe.rows l.rows) l.watches) (take l.i l.watches);
}
