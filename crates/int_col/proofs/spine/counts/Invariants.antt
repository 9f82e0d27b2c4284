use Rattle.std.proofs.Common.{◌≡◌, ◌≤◌, take}
use Rattle.std.specs.List.{All}
use Rattle.segments.specs.Joined.{counts_of}
use Rattle.int_col.proofs.spine.counts.Given as goal

abbrev pub invariant-loop-shared : goal.invariant-loop-shared
invariant-loop-shared l = record {
  counts : l.counts.items ≡ counts_of (take l.shared-index l.segments);
  few : All (λ n. n ≤ 2048) l.counts.items;
}
