use Rattle.std.proofs.Common.{◌≡◌, ◌+◌, ◌++◌, drop, map}
use Rattle.mk_value.specs.Conversions.{LiteralsFit, LiteralRowFits, row_becomes, rows_become}
use Rattle.mk_value.specs.Data.{datum_weight, row_weight, rows_weight, relation_of, rows_of, tuple_of, values_of}
use Rattle.mk_value.specs.Heading.{heading_of}
use Rattle.mk_value.specs.LiteralValues.{literal_of}
use Rattle.mk_value.proofs.conversion.+convert.Given as goal

abbrev pub decreases-convert : goal.decreases-convert
decreases-convert l = datum_weight (literal_of l.literal.now)

abbrev pub decreases-convert_rows : goal.decreases-convert_rows
decreases-convert_rows l = rows_weight l.rows.now + 1

abbrev pub decreases-convert_row : goal.decreases-convert_row
decreases-convert_row l = row_weight l.row.now + 1

abbrev pub decreases-convert_cell : goal.decreases-convert_cell
decreases-convert_cell l = row_weight (map literal_of l.literals.now)

-- the rows so far, with what those to come become, are what all become; those to come fit
abbrev pub invariant-convert_rows-loop-row : goal.invariant-convert_rows-loop-row
invariant-convert_rows-loop-row l =
    (l.converted ++ rows_of (rows_become (relation_of (drop l.row-index l.row-items)) (heading_of l.schema)) ≡ rows_of (rows_become (relation_of l.row-items) (heading_of l.schema)))
    × LiteralsFit (relation_of (drop l.row-index l.row-items)) (heading_of l.schema)

-- the same of the values of a row
abbrev pub invariant-convert_row-loop-at : goal.invariant-convert_row-loop-at
invariant-convert_row-loop-at l =
    (l.converted ++ values_of (row_becomes (tuple_of (drop l.at (map literal_of l.literals))) (heading_of (drop l.at l.props)))
    ≡ values_of (row_becomes (tuple_of (map literal_of l.literals)) (heading_of l.props)))
    × LiteralRowFits (tuple_of (drop l.at (map literal_of l.literals))) (heading_of (drop l.at l.props))
