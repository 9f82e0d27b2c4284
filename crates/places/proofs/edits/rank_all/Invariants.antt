use Rattle.std.proofs.Common.{◌≡◌, ◌++◌, map, take, drop}
use Rattle.places.specs.Numbers.{kept_ranked}
use Rattle.places.proofs.edits.rank_all.Given as goal

abbrev pub invariant-loop-chunk : goal.invariant-loop-chunk
invariant-loop-chunk l = l.chunks ≡ map (kept_ranked l.ranks) (take l.chunk-index l.fn.chunks) ++ drop l.chunk-index l.fn.chunks
