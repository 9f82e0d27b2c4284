use Rattle.std.proofs.Common.{◌↔◌, ◌+◌, drop, map, All}
use Rattle.mk_value.specs.Data.{datum_weight, row_weight, rows_weight, IsRowOf}
use Rattle.mk_value.specs.Values.{datum_of}
use Rattle.mk_value.proofs.fitting.+fits.Given as goal

abbrev pub decreases-fits : goal.decreases-fits
decreases-fits l = datum_weight (datum_of l.value.now)

abbrev pub decreases-rows_fit : goal.decreases-rows_fit
decreases-rows_fit l = rows_weight l.rows.now + 1

abbrev pub decreases-row_fits : goal.decreases-row_fits
decreases-row_fits l = row_weight l.row.now + 1

-- all rows fit where those to come do
abbrev pub invariant-rows_fit-loop-row : goal.invariant-rows_fit-loop-row
invariant-rows_fit-loop-row l =
    All (λ r. IsRowOf r l.schema) l.rows ↔ All (λ r. IsRowOf r l.schema) (drop l.row-index l.rows)

-- the row fits where the values to come do
abbrev pub invariant-row_fits-loop-at : goal.invariant-row_fits-loop-at
invariant-row_fits-loop-at l =
    IsRowOf (map datum_of l.values) l.props ↔ IsRowOf (drop l.at (map datum_of l.values)) (drop l.at l.props)
