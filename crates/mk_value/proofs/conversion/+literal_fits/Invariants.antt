use Rattle.std.proofs.Common.{◌↔◌, ◌+◌, drop, map}
use Rattle.mk_value.specs.Conversions.{LiteralsFit, LiteralRowFits}
use Rattle.mk_value.specs.Data.{datum_weight, row_weight, rows_weight, relation_of, tuple_of}
use Rattle.mk_value.specs.Heading.{heading_of}
use Rattle.mk_value.specs.LiteralValues.{literal_of}
use Rattle.mk_value.proofs.conversion.+literal_fits.Given as goal

abbrev pub decreases-literal_fits : goal.decreases-literal_fits
decreases-literal_fits l = datum_weight (literal_of l.literal.now)

abbrev pub decreases-literal_rows_fit : goal.decreases-literal_rows_fit
decreases-literal_rows_fit l = rows_weight l.rows.now + 1

abbrev pub decreases-literal_row_fits : goal.decreases-literal_row_fits
decreases-literal_row_fits l = row_weight l.row.now + 1

-- all rows fit where those to come do
abbrev pub invariant-literal_rows_fit-loop-row : goal.invariant-literal_rows_fit-loop-row
invariant-literal_rows_fit-loop-row l =
    LiteralsFit (relation_of l.row-items) (heading_of l.schema) ↔ LiteralsFit (relation_of (drop l.row-index l.row-items)) (heading_of l.schema)

-- the row fits where the literals to come do
abbrev pub invariant-literal_row_fits-loop-at : goal.invariant-literal_row_fits-loop-at
invariant-literal_row_fits-loop-at l =
    LiteralRowFits (tuple_of (map literal_of l.literals)) (heading_of l.props)
    ↔ LiteralRowFits (tuple_of (drop l.at (map literal_of l.literals))) (heading_of (drop l.at l.props))
