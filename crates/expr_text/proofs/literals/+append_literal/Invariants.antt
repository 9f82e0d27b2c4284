use Rattle.std.proofs.Common.{◌+◌, ◌*◌, take, map}
use Rattle.mk_value.specs.Appending.{Appends}
use Rattle.mk_value.specs.Data.{datum_weight, row_weight, rows_weight}
use Rattle.mk_value.specs.Literals.{more_values_text, more_rows_text}
use Rattle.mk_value.specs.LiteralValues.{literal_of}
use Rattle.expr_text.proofs.literals.+append_literal.Given as goal

abbrev pub decreases-append_literal : goal.decreases-append_literal
decreases-append_literal l = 4 * datum_weight (literal_of l.literal.now)

abbrev pub decreases-append_rows : goal.decreases-append_rows
decreases-append_rows l = 4 * rows_weight l.rows.now + 3

abbrev pub decreases-append_joined_rows : goal.decreases-append_joined_rows
decreases-append_joined_rows l = 4 * rows_weight l.rows.now + 2

abbrev pub decreases-append_more_rows : goal.decreases-append_more_rows
decreases-append_more_rows l = 4 * rows_weight l.rows.now + 1

abbrev pub decreases-append_row : goal.decreases-append_row
decreases-append_row l = 4 * row_weight l.row.now + 3

abbrev pub decreases-append_values : goal.decreases-append_values
decreases-append_values l = 4 * row_weight (map literal_of l.values.now) + 2

abbrev pub decreases-append_more_values : goal.decreases-append_more_values
decreases-append_more_values l = 4 * row_weight (map literal_of l.values.now) + 1

abbrev pub invariant-append_more_rows-loop-row : goal.invariant-append_more_rows-loop-row
invariant-append_more_rows-loop-row l = Appends l.fn.out (more_rows_text (take l.row-index l.rows)) l.out

abbrev pub invariant-append_more_values-loop-value : goal.invariant-append_more_values-loop-value
invariant-append_more_values-loop-value l = Appends l.fn.out (more_values_text (take l.value-index (map literal_of l.values))) l.out
