use Rattle.std.proofs.Common.{◌≡◌, ◌++◌, map, take, drop}
use Rattle.row_edits.specs.Runs.{moved_down}
use Rattle.places.proofs.numbers.lower.Given as goal

abbrev pub invariant-loop-k : goal.invariant-loop-k
invariant-loop-k l = l.kept ≡ map (moved_down l.at l.count) (take l.k-index l.fn.kept) ++ drop l.k-index l.fn.kept
