use Rattle.std.proofs.Common.{◌≡◌, ◌++◌, get_or, map, take, drop}
use Rattle.derived.proofs.derived.look_up.Given as goal

abbrev pub invariant-loop-position : goal.invariant-loop-position
invariant-loop-position l = l.positions ≡ map (λ i. get_or l.below i 0) (take l.position-index l.fn.positions) ++ drop l.position-index l.fn.positions
