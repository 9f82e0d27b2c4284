use Rattle.std.proofs.Common.{◌≡◌, ◌-◌, ◌≤◌, length, take}
use Rattle.std.specs.List.{All}
use Rattle.segments.specs.Joined.{joined, counts_of}
use Rattle.tables.proofs.groups.grouped.Given as goal

abbrev pub invariant-loop-from : goal.invariant-loop-from
invariant-loop-from l = record {
  in_range : l.from ≤ length l.chunks;
  chunks : joined l.groups.items ≡ take l.from l.chunks;
  few : All (λ n. n ≤ 64) (counts_of l.groups.items);
}

abbrev pub decreases-loop-from : goal.decreases-loop-from
decreases-loop-from l = length l.chunks - l.from
