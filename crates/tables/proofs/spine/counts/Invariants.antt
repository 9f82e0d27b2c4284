use Rattle.std.proofs.Common.{◌≡◌, take}
use Rattle.segments.specs.Joined.{counts_of}
use Rattle.tables.proofs.spine.counts.Given as goal

abbrev pub invariant-loop-chunk : goal.invariant-loop-chunk
invariant-loop-chunk l = l.counts.items ≡ counts_of (take l.chunk-index l.chunks)
