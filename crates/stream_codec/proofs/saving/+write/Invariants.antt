use Rattle.std.proofs.Common.{◌+◌, ◌*◌, [], get_or, take}
use Rattle.std.specs.List.{flat_map}
use Rattle.mk_value.specs.Appending.{Appends}
use Rattle.mk_value.specs.Data.{rows_weight}
use Rattle.stream_codec.specs.Stream.{spelled_value}
use Rattle.stream_codec.proofs.saving.+write.Given as goal

abbrev pub decreases-write_rows : goal.decreases-write_rows
decreases-write_rows l = 2 * rows_weight l.table.now.rows + 2

abbrev pub decreases-write_row : goal.decreases-write_row
decreases-write_row l = 2 * rows_weight l.table.now.rows + 1

abbrev pub decreases-write_value : goal.decreases-write_value
decreases-write_value l = 2 * rows_weight l.table.now.rows

-- the rows so far are written, behind their number
abbrev pub invariant-write_rows-loop-row : goal.invariant-write_rows-loop-row
invariant-write_rows-loop-row l = Appends l.initial.out (flat_map (λ row. flat_map spelled_value row) (take l.row l.table.rows)) l.out

-- the values so far are written
abbrev pub invariant-write_row-loop-col : goal.invariant-write_row-loop-col
invariant-write_row-loop-col l = Appends l.fn.out (flat_map spelled_value (take l.col (get_or l.table.rows l.row []))) l.out
