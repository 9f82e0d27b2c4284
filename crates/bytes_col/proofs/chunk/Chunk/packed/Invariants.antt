use Rattle.std.proofs.Common.{◌≡◌, take}
use Rattle.bytes_col.proofs.chunk.Chunk.packed.Given as goal

abbrev pub invariant-loop-at : goal.invariant-loop-at
invariant-loop-at l = l.chunk ≡ take l.at l.self
