use Rattle.std.proofs.Common.{◌≡◌, take}
use Rattle.segments.specs.Joined.{joined}
use Rattle.tables.proofs.groups.chunks_of.Given as goal

abbrev pub invariant-loop-group : goal.invariant-loop-group
invariant-loop-group l = l.chunks.items ≡ joined (take l.group-index l.groups)
