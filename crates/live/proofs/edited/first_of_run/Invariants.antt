use Rattle.std.proofs.Common.{◌≡◌, ◌<◌, ◌≤◌, ℕ, true, Some}
use Rattle.live.specs.Leaving.{goes_at}
use Rattle.live.proofs.edited.first_of_run.Given as goal

abbrev pub invariant-loop-first : goal.invariant-loop-first
invariant-loop-first l = record {
  within : l.first ≤ l.end;
  go : (k : ℕ) → l.first ≤ k → k < l.end → goes_at l.at l.count l.watches (Some l.over) k ≡ true;
}

abbrev pub decreases-loop-first : goal.decreases-loop-first
decreases-loop-first l = l.first
