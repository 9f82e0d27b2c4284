use Rattle.std.proofs.Common.{◌≤◌, length, drop}
use Rattle.host_io.specs.Log.{AreLater}
use Rattle.host_io.proofs.crash.count_within.Given as goal

abbrev pub invariant-loop-count : goal.invariant-loop-count
invariant-loop-count l = (l.count ≤ length l.entries) × AreLater l.calls (drop l.count l.entries)

abbrev pub decreases-loop-count : goal.decreases-loop-count
decreases-loop-count l = l.count
