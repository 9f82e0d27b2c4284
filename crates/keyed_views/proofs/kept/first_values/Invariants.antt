use Rattle.std.proofs.Common.{◌≡◌, take}
use Rattle.keyed_views.proofs.kept.first_values.Given as goal

abbrev pub invariant-loop-at : goal.invariant-loop-at
invariant-loop-at l = l.key ≡ take l.at l.row
