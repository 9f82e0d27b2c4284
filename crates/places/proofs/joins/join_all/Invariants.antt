use Rattle.std.proofs.Common.{◌≡◌, ◌+◌, ◌≤◌, [], length, vec_capacity}
use Rattle.std.specs.List.{All, concat}
use Rattle.places.proofs.joins.join_all.Given as goal

abbrev pub invariant-loop-k : goal.invariant-loop-k
invariant-loop-k l = record {
  list : concat l.chunks.items ≡ concat l.fn.chunks.items;
  fits : length l.chunks.items + length l.spare.items ≤ length l.fn.chunks.items + length l.fn.spare.items;
  empty : All (λ c. c ≡ []) l.spare.items;
  grown : length l.fn.spare.items ≤ length l.spare.items;
  capacity : vec_capacity l.chunks ≡ vec_capacity l.fn.chunks;
}

abbrev pub decreases-loop-k : goal.decreases-loop-k
decreases-loop-k l = l.k
