use Rattle.std.proofs.Common.{◌-◌, ◌≡◌, ◌≢◌, ◌+◌, ◌*◌, ◌^◌, ◌<◌, ◌≤◌, ℕ, false, length, get_or}
use Rattle.std.specs.declared.cmp.Ordering.TheVariants.{Less}
use Rattle.live.proofs.keeper.place.Given as goal
use Rattle.live.specs.Watching.{is_sorting, position_cmp}

abbrev pub invariant-loop-low : goal.invariant-loop-low
invariant-loop-low g l =
    let rows = g.P.Probe.rows l.rows in
    record {
      ordered : l.low ≤ l.high;
      within : l.high ≤ length l.kept.list;
      below : (k : ℕ) → k < l.low → position_cmp (g.P.Probe.schema l.rows) l.op rows (get_or l.kept.list k 0) l.row ≡ Less;
      above : (k : ℕ) → l.high ≤ k → k < length l.kept.list → position_cmp (g.P.Probe.schema l.rows) l.op rows (get_or l.kept.list k 0) l.row ≢ Less;
      least : l.fn.steps ≤ l.steps;
      left : 2 ^ (l.steps - l.fn.steps) * (l.high - l.low) ≤ length l.kept.list;
      cost : 2 ^ (l.steps - l.fn.steps) ≤ 2 * length l.kept.list + 1;
      free : is_sorting l.op ≡ false → l.steps ≡ l.fn.steps;
    }

abbrev pub decreases-loop-low : goal.decreases-loop-low
decreases-loop-low g l = l.high - l.low
