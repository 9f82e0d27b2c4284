use Rattle.std.proofs.Common.{◌≡◌, ◌++◌, get_or, map, take, drop}
use Rattle.places.proofs.numbers.rank_all.Given as goal

abbrev pub invariant-loop-k : goal.invariant-loop-k
invariant-loop-k l = l.kept ≡ map (λ k. get_or l.ranks k 0) (take l.k-index l.fn.kept) ++ drop l.k-index l.fn.kept
