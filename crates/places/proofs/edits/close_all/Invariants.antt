use Rattle.std.proofs.Common.{◌≡◌, ◌++◌, map, take, drop}
use Rattle.row_edits.specs.Runs.{kept_outside}
use Rattle.places.proofs.edits.close_all.Given as goal

abbrev pub invariant-loop-chunk : goal.invariant-loop-chunk
invariant-loop-chunk l = l.chunks ≡ map (kept_outside l.low l.count) (take l.chunk-index l.fn.chunks) ++ drop l.chunk-index l.fn.chunks
