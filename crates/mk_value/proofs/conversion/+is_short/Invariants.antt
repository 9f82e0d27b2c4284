use Rattle.std.proofs.Common.{◌↔◌, ◌+◌, drop, map}
use Rattle.mk_value.specs.Conversions.{AreShort, IsShortRow}
use Rattle.mk_value.specs.Data.{datum_weight, row_weight, rows_weight, relation_of, tuple_of}
use Rattle.mk_value.specs.LiteralValues.{literal_of}
use Rattle.mk_value.proofs.conversion.+is_short.Given as goal

abbrev pub decreases-is_short : goal.decreases-is_short
decreases-is_short l = datum_weight (literal_of l.literal.now)

abbrev pub decreases-are_short : goal.decreases-are_short
decreases-are_short l = rows_weight l.rows.now + 1

abbrev pub decreases-is_short_row : goal.decreases-is_short_row
decreases-is_short_row l = row_weight l.row.now + 1

abbrev pub invariant-are_short-loop-row : goal.invariant-are_short-loop-row
invariant-are_short-loop-row l = AreShort (relation_of l.row-items) ↔ AreShort (relation_of (drop l.row-index l.row-items))

abbrev pub invariant-is_short_row-loop-literal : goal.invariant-is_short_row-loop-literal
invariant-is_short_row-loop-literal l =
    IsShortRow (tuple_of (map literal_of l.literal-items)) ↔ IsShortRow (tuple_of (drop l.literal-index (map literal_of l.literal-items)))
