use Rattle.std.proofs.Common.{◌≡◌, false, get_or, not, take}
use Rattle.std.specs.List.{filter}
use Rattle.joins.proofs.sets.unmarked.Given as goal

abbrev pub invariant-loop-position : goal.invariant-loop-position
invariant-loop-position l = l.kept ≡ filter (λ i. not (get_or l.marks i false)) (take l.position-index l.positions)
