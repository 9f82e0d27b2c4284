use Rattle.std.proofs.Common.{◌≡◌, take}
use Rattle.segments.specs.Joined.{counts_of}
use Rattle.segments.proofs.groups.counts.Given as goal

abbrev pub invariant-loop-shared : goal.invariant-loop-shared
invariant-loop-shared g l = l.counts.items ≡ counts_of (take l.shared-index l.groups)
