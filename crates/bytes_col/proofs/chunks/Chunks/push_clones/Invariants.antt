use Rattle.std.proofs.Common.{◌≡◌, ◌++◌, replicate}
use Rattle.bytes_col.proofs.chunks.Chunks.push_clones.Given as goal

abbrev pub invariant-loop-copy : goal.invariant-loop-copy
invariant-loop-copy l = l.self ≡ l.initial.self ++ replicate l._copy l.chunk
