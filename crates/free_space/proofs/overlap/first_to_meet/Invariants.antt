use Rattle.free_space.specs.Overlaps.{AreNeighborsApart}
use Rattle.free_space.proofs.overlap.first_to_meet.Given as goal

abbrev pub invariant-loop-at : goal.invariant-loop-at
invariant-loop-at l = AreNeighborsApart l.ordered l.at
