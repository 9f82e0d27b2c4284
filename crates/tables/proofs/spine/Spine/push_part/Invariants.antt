use Rattle.std.proofs.Common.{◌≡◌, ◌-◌, ◌≤◌, ◌++◌, take, drop}
use Rattle.segments.specs.Joined.{joined}
use Rattle.tables.proofs.spine.Spine.push_part.Given as goal

abbrev pub invariant-loop-done : goal.invariant-loop-done
invariant-loop-done l = record {
  in_range : l.done ≤ l.count;
  tables : l.list ≡ l.fn.list ++ take l.done (drop l.from (joined l.self));
}

abbrev pub decreases-loop-done : goal.decreases-loop-done
decreases-loop-done l = l.count - l.done
