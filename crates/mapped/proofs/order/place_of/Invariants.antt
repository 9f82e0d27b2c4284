use Rattle.std.proofs.Common.{◌≡◌, ◌≢◌, ◌-◌, ◌<◌, ◌≤◌, ℕ, [], length, get_or}
use Rattle.std.specs.declared.cmp.Ordering.TheVariants.{Less}
use Rattle.relations.specs.WholeOrder.{whole_row_cmp}
use Rattle.mapped.proofs.order.place_of.Given as goal

abbrev pub invariant-loop-low : goal.invariant-loop-low
invariant-loop-low l =
    record {
      halves : l.low ≤ l.high;
      within : l.high ≤ length l.order.list;
      below : (k : ℕ) → k < l.low → whole_row_cmp (get_or l.keys (get_or l.order.list k 0) []) l.key ≡ Less;
      from : (k : ℕ) → l.high ≤ k → k < length l.order.list → whole_row_cmp (get_or l.keys (get_or l.order.list k 0) []) l.key ≢ Less;
    }

abbrev pub decreases-loop-low : goal.decreases-loop-low
decreases-loop-low l = l.high - l.low
