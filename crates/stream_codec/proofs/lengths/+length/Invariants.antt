use Rattle.std.proofs.Common.{◌≡◌, ◌+◌, ◌*◌, ◌^◌, ◌<◌, length, take}
use Rattle.std.specs.List.{flat_map}
use Rattle.mk_value.specs.Data.{rows_weight}
use Rattle.tables.specs.Homes.{column_of}
use Rattle.stream_codec.specs.Stream.{spelled_value}
use Rattle.stream_codec.proofs.ColumnLengths.{front_length}
use Rattle.stream_codec.proofs.lengths.+length.Given as goal

abbrev pub decreases-rows_length : goal.decreases-rows_length
decreases-rows_length l = 2 * rows_weight l.table.now.rows + 3

abbrev pub decreases-column_length : goal.decreases-column_length
decreases-column_length l = 2 * rows_weight l.table.now.rows + 2

abbrev pub decreases-values_length : goal.decreases-values_length
decreases-values_length l = 2 * rows_weight l.table.now.rows + 1

abbrev pub decreases-value_length : goal.decreases-value_length
decreases-value_length l = 2 * rows_weight l.table.now.rows

-- the columns so far, with the number of rows before them
abbrev pub invariant-rows_length-loop-col : goal.invariant-rows_length-loop-col
invariant-rows_length-loop-col l = (l.len ≡ 4 + front_length l.table.rows l.col) × (l.len < 2 ^ 64)

-- the values so far
abbrev pub invariant-values_length-loop-row : goal.invariant-values_length-loop-row
invariant-values_length-loop-row l = (l.len ≡ length (flat_map spelled_value (take l.row (column_of l.table.rows l.col)))) × (l.len < 2 ^ 64)
