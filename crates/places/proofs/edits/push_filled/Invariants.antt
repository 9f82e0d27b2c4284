use Rattle.std.proofs.Common.{◌≡◌, ◌+◌, ◌/◌, ◌++◌, ◌≤◌, ◌<◌, ◌^◌, [], length, take, drop, vec_capacity}
use Rattle.std.specs.List.{All, concat}
use Rattle.row_edits.specs.Runs.{run}
use Rattle.places.proofs.edits.push_filled.Given as goal

abbrev pub invariant-loop-left : goal.invariant-loop-left
invariant-loop-left l = record {
  front : take (length l.fn.chunks.items) l.chunks.items ≡ l.fn.chunks.items;
  run : concat (drop (length l.fn.chunks.items) l.chunks.items) ++ run l.from l.left ≡ run l.fn.first l.fn.count;
  long : length l.fn.chunks.items ≤ length l.chunks.items;
  fits : length l.chunks.items + length l.spare.items ≡ length l.fn.chunks.items + length l.fn.spare.items;
  empty : All (λ c. c ≡ []) l.spare.items;
  spare : length l.fn.spare.items + (l.left + 2047) / 2048 ≡ length l.spare.items + (l.fn.count + 2047) / 2048;
  capacity : vec_capacity l.chunks ≡ vec_capacity l.fn.chunks;
  small : l.from + l.left < 2 ^ 32;
}

abbrev pub decreases-loop-left : goal.decreases-loop-left
decreases-loop-left l = l.left
