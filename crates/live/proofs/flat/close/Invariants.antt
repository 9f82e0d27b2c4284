use Rattle.std.proofs.Common.{◌≡◌, ◌++◌, map, take, drop}
use Rattle.live.proofs.flat.close.Given as goal
use Rattle.live.specs.Placing.{closed}

abbrev pub invariant-loop-k : goal.invariant-loop-k
invariant-loop-k l = l.kept ≡ map (closed l.p) (take l.k-index l.fn.kept) ++ drop l.k-index l.fn.kept
