use Rattle.std.proofs.Common.{◌≡◌, ◌+◌, drop, map}
use Rattle.mk_value.specs.Data.{datum_weight, row_weight, rows_weight}
use Rattle.mk_value.specs.Values.{datum_of}
use Rattle.relations.specs.WholeOrder.{whole_row_cmp, whole_rows_cmp}
use Rattle.relations.proofs.order.+whole.Given as goal

abbrev pub decreases-cmp_whole_value : goal.decreases-cmp_whole_value
decreases-cmp_whole_value l = datum_weight (datum_of l.a.now)

abbrev pub decreases-cmp_whole_row : goal.decreases-cmp_whole_row
decreases-cmp_whole_row l = row_weight l.a.now + 1

abbrev pub decreases-cmp_whole_rows : goal.decreases-cmp_whole_rows
decreases-cmp_whole_rows l = rows_weight l.a.now + 1

-- the values to come decide
abbrev pub invariant-cmp_whole_row-loop-at : goal.invariant-cmp_whole_row-loop-at
invariant-cmp_whole_row-loop-at l =
    whole_row_cmp (map datum_of l.ones) (map datum_of l.twos) ≡ whole_row_cmp (drop l.at (map datum_of l.ones)) (drop l.at (map datum_of l.twos))

-- the rows to come decide
abbrev pub invariant-cmp_whole_rows-loop-at : goal.invariant-cmp_whole_rows-loop-at
invariant-cmp_whole_rows-loop-at l = whole_rows_cmp l.ones l.twos ≡ whole_rows_cmp (drop l.at l.ones) (drop l.at l.twos)
