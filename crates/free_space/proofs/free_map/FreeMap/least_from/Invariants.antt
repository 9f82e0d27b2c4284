use Rattle.free_space.proofs.PlaceLemmas.{IsReached}
use Rattle.free_space.proofs.free_map.FreeMap.least_from.Given as goal

abbrev pub invariant-loop-at : goal.invariant-loop-at
invariant-loop-at l = IsReached l.self.floor l.self.used l.from.len l.at l.place
