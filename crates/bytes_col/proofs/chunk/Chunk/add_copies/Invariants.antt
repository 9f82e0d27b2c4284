use Rattle.std.proofs.Common.{◌≡◌, ◌++◌, [], replicate, get_or}
use Rattle.bytes_col.proofs.chunk.Chunk.add_copies.Given as goal

abbrev pub invariant-loop-copy : goal.invariant-loop-copy
invariant-loop-copy l = l.self ≡ l.initial.self ++ replicate l._copy (get_or l.other l.at [])
