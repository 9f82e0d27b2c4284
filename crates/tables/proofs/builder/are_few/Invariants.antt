use Rattle.std.proofs.Common.{◌≡◌, ◌+◌, length, take}
use Rattle.segments.specs.Joined.{joined}
use Rattle.tables.proofs.builder.are_few.Given as goal

-- what is left for the chunks to come
abbrev pub invariant-loop-chunk : goal.invariant-loop-chunk
invariant-loop-chunk l = length (joined (take l.chunk-index l.chunks)) + l.left ≡ 16777216
