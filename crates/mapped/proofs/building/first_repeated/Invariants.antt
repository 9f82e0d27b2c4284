use Rattle.std.proofs.Common.{◌≡◌, ◌<◌, length}
use Rattle.mapped.proofs.Sorting.{IsLeastTied}
use Rattle.mapped.proofs.building.first_repeated.Given as goal

abbrev pub invariant-loop-place : goal.invariant-loop-place
invariant-loop-place l = IsLeastTied l.keys l.order l.place l.first × (length l.order < l.place → l.place ≡ 1)
