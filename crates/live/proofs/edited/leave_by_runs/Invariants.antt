use Rattle.std.proofs.Common.{◌≡◌, ◌≤◌, length, get_or, Some}
use Rattle.live.specs.Edits.{HasTaken}
use Rattle.live.specs.Leaving.{goes_at, kept_left}
use Rattle.live.specs.States.{WatchState}
use Rattle.live.proofs.Leaving.{from}
use Rattle.live.proofs.edited.leave_by_runs.Given as goal

abbrev pub invariant-loop-end : goal.invariant-loop-end
invariant-loop-end l = record {
  within : (d : WatchState) → l.end ≤ length (get_or l.below l.over d).kept;
  kept : l.watch.kept ≡ kept_left (from l.end (goes_at l.at l.count l.below (Some l.over))) l.fn.watch.kept;
  taken : HasTaken 0 0 l.fn.watch l.watch;
}

abbrev pub decreases-loop-end : goal.decreases-loop-end
decreases-loop-end l = l.end
