use Rattle.std.proofs.Common.{◌≡◌, map, take}
use Rattle.grouping.specs.Groups.{counted_key}
use Rattle.grouping.specs.Index.{keys_of}
use Rattle.grouping.proofs.counting.counted_rows.Given as goal

abbrev pub invariant-loop-group : goal.invariant-loop-group
invariant-loop-group g l = l.rows ≡ map (counted_key l.index) (take l.group (keys_of l.index))
