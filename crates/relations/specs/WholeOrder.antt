-- The order of whole rows, views included.
use Rattle.std.specs.Prelude.{List}
use Rattle.std.specs.declared.cmp.Ordering.{Ordering}
use Rattle.std.specs.declared.cmp.Ordering.TheVariants.{Less, Equal, Greater}
use Rattle.std.specs.Ordering.{ordering_then}
use Rattle.std.specs.Cmp.Lexicographic.{slice_cmp}
use Rattle.mk_value.specs.Data.{Datum, relation, Tuple, no_values, value, Relation, no_tuples, tuple}
use Rattle.mk_value.specs.Order.{value_cmp}

abbrev mutual
  -- values as they are ordered, and views row by row
  pub whole_cmp : Datum → Datum → Ordering
  whole_cmp (relation r) (relation s) = relation_cmp r s
  whole_cmp a b = value_cmp a b

  -- the first value that differs decides, and a proper prefix is less
  pub tuple_cmp : Tuple → Tuple → Ordering
  tuple_cmp no_values no_values = Equal
  tuple_cmp no_values (value e others) = Less
  tuple_cmp (value d rest) no_values = Greater
  tuple_cmp (value d rest) (value e others) = ordering_then (whole_cmp d e) (tuple_cmp rest others)

  -- the first row that differs decides, and a proper prefix is less
  pub relation_cmp : Relation → Relation → Ordering
  relation_cmp no_tuples no_tuples = Equal
  relation_cmp no_tuples (tuple u others) = Less
  relation_cmp (tuple t rest) no_tuples = Greater
  relation_cmp (tuple t rest) (tuple u others) = ordering_then (tuple_cmp t u) (relation_cmp rest others)

abbrev pub whole_row_cmp : List Datum → List Datum → Ordering
whole_row_cmp = slice_cmp whole_cmp

abbrev pub whole_rows_cmp : List (List Datum) → List (List Datum) → Ordering
whole_rows_cmp = slice_cmp whole_row_cmp
