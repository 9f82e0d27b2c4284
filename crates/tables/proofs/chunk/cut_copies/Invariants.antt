use Rattle.std.proofs.Common.{◌≡◌, ◌-◌, ◌<◌, ◌≤◌, length, take}
use Rattle.std.specs.List.{All}
use Rattle.segments.specs.Joined.{joined, counts_of}
use Rattle.tables.proofs.chunk.cut_copies.Given as goal

abbrev pub invariant-loop-from : goal.invariant-loop-from
invariant-loop-from l = record {
  in_range : l.from ≤ length l.list;
  tables : joined l.chunks.items ≡ take l.from l.list;
  some : All (λ n. 0 < n) (counts_of l.chunks.items);
  few : All (λ n. n ≤ 1024) (counts_of l.chunks.items);
}

abbrev pub decreases-loop-from : goal.decreases-loop-from
decreases-loop-from l = length l.list - l.from
