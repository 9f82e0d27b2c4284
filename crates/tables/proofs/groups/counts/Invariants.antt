use Rattle.std.proofs.Common.{◌≡◌, take}
use Rattle.segments.specs.Joined.{counts_of}
use Rattle.tables.proofs.groups.counts.Given as goal

abbrev pub invariant-loop-group : goal.invariant-loop-group
invariant-loop-group l = l.counts.items ≡ counts_of (take l.group-index l.groups)
