use Rattle.std.proofs.Common.{◌+◌, ◌≤◌, take}
use Rattle.std.specs.List.{sum_by}
use Rattle.live.specs.Costs.{after_cost}
use Rattle.live.specs.Edits.{AreSpreadDue}
use Rattle.live.proofs.Coming.{HaveCome}
use Rattle.live.proofs.edited.spread_all.Given as goal

abbrev pub invariant-loop-i : goal.invariant-loop-i
invariant-loop-i g l = record {
  come : (due : AreSpreadDue (g.P.Probe.schema l.rows) l.fn.watches l.at l.count (g.P.Probe.rows l.rows)) → HaveCome (g.P.Probe.schema l.rows) (g.P.Probe.rows l.rows) l.at l.count due.row due.before l.fn.watches l.watches l.i;
  cost : l.steps ≤ l.fn.steps + sum_by (after_cost (g.P.Probe.rows l.rows) l.watches) (take l.i l.watches);
}
