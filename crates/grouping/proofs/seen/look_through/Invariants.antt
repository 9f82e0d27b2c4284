use Rattle.std.proofs.Common.{◌<◌, ◌≤◌, All, Contains, length}
use Rattle.grouping.specs.Index.{Cover}
use Rattle.grouping.proofs.seen.look_through.Given as goal

abbrev pub invariant-loop-at : goal.invariant-loop-at
invariant-loop-at g l = Cover l.keys l.at l.kept.items × All (Contains l.kept.items) l.seen × (0 < length l.seen) × (l.at ≤ length l.keys)
