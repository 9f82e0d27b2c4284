use Rattle.std.proofs.Common.{◌≡◌, ◌-◌, ℕ, ◌<◌, ◌≤◌, true, false, [], length, get_or}
use Rattle.std.specs.Ordering.{is_lt}
use Rattle.relations.specs.Searching.{asked_cmp}
use Rattle.relations.proofs.searching.lower.Given as goal

abbrev pub invariant-loop-low : goal.invariant-loop-low
invariant-loop-low g l =
    (l.low ≤ l.high) × (l.high ≤ length (g.T.TableRead.rows l.table))
    × ((k : ℕ) → k < l.low → is_lt (asked_cmp (g.T.TableRead.schema l.table) l.keys l.criteria (get_or (g.T.TableRead.rows l.table) k [])) ≡ true)
    × ((k : ℕ) → l.high ≤ k → k < length (g.T.TableRead.rows l.table) → is_lt (asked_cmp (g.T.TableRead.schema l.table) l.keys l.criteria (get_or (g.T.TableRead.rows l.table) k [])) ≡ false)

abbrev pub decreases-loop-low : goal.decreases-loop-low
decreases-loop-low g l = l.high - l.low
