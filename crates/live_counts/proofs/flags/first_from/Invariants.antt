use Rattle.std.proofs.Common.{◌-◌, ◌<◌, ◌≤◌, ℕ, length, get_or}
use Rattle.live_counts.proofs.flags.first_from.Given as goal

abbrev pub invariant-loop-low : goal.invariant-loop-low
invariant-loop-low l = record {
  ordered : l.low ≤ l.high;
  within : l.high ≤ length l.starts;
  below : (k : ℕ) → k < l.low → get_or l.starts k 0 < l.number;
  above : (k : ℕ) → l.high ≤ k → k < length l.starts → l.number ≤ get_or l.starts k 0;
}

abbrev pub decreases-loop-low : goal.decreases-loop-low
decreases-loop-low l = l.high - l.low
