use Rattle.std.proofs.Common.{◌≡◌, ◌+◌, ◌++◌, vec_len, vec_capacity}
use Rattle.row_edits.specs.Runs.{run}
use Rattle.places.proofs.numbers.push_run.Given as goal

abbrev pub invariant-loop-k : goal.invariant-loop-k
invariant-loop-k l = record {
  items : l.numbers.items ≡ l.fn.numbers.items ++ run l.first l.k;
  len : vec_len l.numbers ≡ vec_len l.fn.numbers + l.k;
  capacity : vec_capacity l.numbers ≡ vec_capacity l.fn.numbers;
}
