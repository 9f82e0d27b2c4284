use Rattle.std.proofs.Common.{◌≡◌, vec_len, vec_capacity}
use Rattle.std.proofs.lemmas.List.Filters.{FiltersInPlace}
use Rattle.row_edits.specs.Runs.{is_outside}
use Rattle.row_edits.proofs.numbers.retain.Given as goal

abbrev pub invariant-loop-i : goal.invariant-loop-i
invariant-loop-i l = record {
  filters : FiltersInPlace (is_outside l.at l.count) l.fn.kept.items l.kept.items l.left l.i;
  len : vec_len l.kept ≡ vec_len l.fn.kept;
  capacity : vec_capacity l.kept ≡ vec_capacity l.fn.kept;
}
