-- Each row of a view inside another is smaller, so that going down into them ends.
use Rattle.std.specs.Prelude.{◌≡◌, ◌+◌, ◌≤◌, List, [], ◌∷◌, map, refl}
use Rattle.std.proofs.Common.{arith}
use denote.Param.Weighed.{most}
use Rattle.mk_value.specs.Data.{Datum, tuple_of, relation_of, datum_weight, tuple_weight, relation_weight, row_weight, rows_weight}
use Rattle.mk_value.specs.Values.{datum_of}
use Rattle.mk_value.specs.declared.value.Value.{Value}
use Rattle.mk_value.specs.declared.value.Value.TheVariants.{I, L, S, B, V}
use Rattle.mk_value.specs.declared.value.Row.TheDeep.{deep-Row, deep-Rows, deep-Value}
use Rattle.mk_value.specs.declared.value.Row.TheInside as row
use Rattle.mk_value.specs.declared.value.Rows.TheInside as rows

pub tuple_weight-tuple_of : (ds : List Datum) → tuple_weight (tuple_of ds) ≡ row_weight ds
tuple_weight-tuple_of [] = refl
tuple_weight-tuple_of (d ∷ rest) = let e = tuple_weight-tuple_of rest in omega (arith, e)

pub relation_weight-relation_of : (rs : List (List Datum)) → relation_weight (relation_of rs) ≡ rows_weight rs
relation_weight-relation_of [] = refl
relation_weight-relation_of (r ∷ rest) =
    let first = tuple_weight-tuple_of r in
    let others = relation_weight-relation_of rest in
    omega (arith, first, others)

value_bound : (v : Value) → deep-Value v ≤ datum_weight (datum_of v)
value_bound (I n) = omega arith
value_bound (L n) = omega arith
value_bound (S t) = omega arith
value_bound (B b) = omega arith
value_bound (V rs) = omega (arith, relation_weight-relation_of rs)

most-cells : (cells : List Value) → most deep-Value cells ≤ row_weight (map datum_of cells)
most-cells [] = omega arith
most-cells (v ∷ rest) = omega (arith, value_bound v, most-cells rest)

most-rows : (rs : List (List Datum)) → most (λ r. row_weight r + 1) rs ≤ rows_weight rs
most-rows [] = omega arith
most-rows (r ∷ rest) = omega (arith, most-rows rest)

pub row_falls : (a : row.Inside) → deep-Row a ≤ row_weight (map datum_of a.cells.items)
row_falls a = omega (arith, most-cells a.cells.items)

pub rows_fall : (a : rows.Inside) → deep-Rows a ≤ rows_weight a.items.items
rows_fall a = omega (arith, most-rows a.items.items)
