use Rattle.std.proofs.Common.{◌≡◌, take}
use Rattle.kept_counts.proofs.showing.positions_kept.Given as goal

abbrev pub invariant-loop-at : goal.invariant-loop-at
invariant-loop-at l = l.positions ≡ take l.at l.filter.kept
