use Rattle.std.proofs.Common.{◌≡◌, ◌≤◌, take}
use Rattle.std.specs.List.{All}
use Rattle.segments.specs.Joined.{counts_of}
use Rattle.bytes_col.proofs.spine.counts.Given as goal

abbrev pub invariant-loop-shared : goal.invariant-loop-shared
invariant-loop-shared l = record {
  counts : l.counts.items ≡ counts_of (take l.shared-index l.chunks);
  few : All (λ n. n ≤ 512) l.counts.items;
}
