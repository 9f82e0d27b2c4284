use Rattle.std.proofs.Common.{◌≡◌, take}
use Rattle.segments.specs.Joined.{joined}
use Rattle.segments.proofs.groups.parts_of.Given as goal

abbrev pub invariant-loop-shared : goal.invariant-loop-shared
invariant-loop-shared g l = l.parts.items ≡ joined (take l.shared-index l.groups)
