use Rattle.std.proofs.Common.{◌≡◌, ◌+◌, ◌++◌, vec_len, vec_capacity}
use Rattle.row_edits.specs.Runs.{run}
use Rattle.row_edits.proofs.numbers.push_run.Given as goal

abbrev pub invariant-loop-k : goal.invariant-loop-k
invariant-loop-k l = record {
  items : l.kept.items ≡ l.fn.kept.items ++ run l.first l.k;
  len : vec_len l.kept ≡ vec_len l.fn.kept + l.k;
  capacity : vec_capacity l.kept ≡ vec_capacity l.fn.kept;
}
