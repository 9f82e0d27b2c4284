use Rattle.std.proofs.Common.{[], take}
use Rattle.segments.specs.Joined.{joined}
use Rattle.tables.specs.Pools.{Adds}
use Rattle.tables.proofs.spine.Spine.pooled.Given as goal

-- the tables of the chunks so far
abbrev pub invariant-loop-at : goal.invariant-loop-at
invariant-loop-at l = Adds [] (joined (take l.at l.self-inside.chunks)) l.chunks.items
