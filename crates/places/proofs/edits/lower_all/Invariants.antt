use Rattle.std.proofs.Common.{◌≡◌, ◌++◌, map, take, drop}
use Rattle.row_edits.specs.Runs.{moved_down}
use Rattle.places.proofs.edits.lower_all.Given as goal

abbrev pub invariant-loop-chunk : goal.invariant-loop-chunk
invariant-loop-chunk l = l.chunks ≡ map (map (moved_down l.at l.count)) (take l.chunk-index l.fn.chunks) ++ drop l.chunk-index l.fn.chunks
