use Rattle.std.proofs.Common.{◌≡◌, ◌≢◌, ◌+◌, ◌-◌, ◌*◌, ◌^◌, ◌<◌, ◌≤◌, ℕ, [], length, get_or}
use Rattle.std.specs.declared.cmp.Ordering.TheVariants.{Less}
use Rattle.mapped.specs.Keys.{row_to_key}
use Rattle.mapped.proofs.ordered.Ordered.lower.Given as goal

abbrev pub invariant-loop-low : goal.invariant-loop-low
invariant-loop-low g l =
    let rows = g.P.KeyProbe.rows l.rows in
    record {
      halves : l.low ≤ l.high;
      within : l.high ≤ length rows;
      below : (k : ℕ) → k < l.low → row_to_key (get_or rows k []) l.key ≡ Less;
      from : (k : ℕ) → l.high ≤ k → k < length rows → row_to_key (get_or rows k []) l.key ≢ Less;
      least : l.fn.steps ≤ l.steps;
      left : 2 ^ (l.steps - l.fn.steps) * (l.high - l.low) ≤ length rows;
      cost : 2 ^ (l.steps - l.fn.steps) ≤ 2 * length rows + 1;
    }

abbrev pub decreases-loop-low : goal.decreases-loop-low
decreases-loop-low g l = l.high - l.low
