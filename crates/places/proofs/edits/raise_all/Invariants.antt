use Rattle.std.proofs.Common.{◌≡◌, ◌++◌, map, take, drop}
use Rattle.row_edits.specs.Runs.{moved_up}
use Rattle.places.proofs.edits.raise_all.Given as goal

abbrev pub invariant-loop-chunk : goal.invariant-loop-chunk
invariant-loop-chunk l = l.chunks ≡ map (map (moved_up l.from l.by)) (take l.chunk-index l.fn.chunks) ++ drop l.chunk-index l.fn.chunks
