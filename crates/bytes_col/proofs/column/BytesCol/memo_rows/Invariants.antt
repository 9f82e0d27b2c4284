use Rattle.std.proofs.Common.{◌≡◌, [], get_or}
use Rattle.std.specs.Prelude.{not}
use Rattle.std.specs.List.{filter, range_with_len}
use Rattle.bytes_col.specs.Strings.{is_short}
use Rattle.bytes_col.proofs.column.BytesCol.memo_rows.Given as goal

abbrev pub invariant-loop-row : goal.invariant-loop-row
invariant-loop-row l = l.rows ≡ filter (λ row. not (is_short (get_or l.self.values row []))) (range_with_len 0 l.row)
