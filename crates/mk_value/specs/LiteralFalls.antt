-- Each row of a view inside a literal is smaller, so that going down into them ends.
use Rattle.std.specs.Prelude.{◌≡◌, ◌+◌, ◌≤◌, List, [], ◌∷◌, map, refl}
use Rattle.std.proofs.Common.{arith}
use denote.Param.Weighed.{most}
use Rattle.mk_value.specs.Data.{Datum, tuple_of, relation_of, datum_weight, tuple_weight, relation_weight, row_weight, rows_weight}
use Rattle.mk_value.specs.LiteralValues.{literal_of}
use Rattle.mk_value.specs.declared.literal.Literal.{Literal}
use Rattle.mk_value.specs.declared.literal.Literal.TheVariants.{Number, Text, Bytes, View}
use Rattle.mk_value.specs.declared.literal.LiteralRows.TheDeep.{deep-Literals, deep-LiteralRows, deep-Literal}
use Rattle.mk_value.specs.declared.literal.Literals.TheInside as row
use Rattle.mk_value.specs.declared.literal.LiteralRows.TheInside as rows

tuple_bound : (ds : List Datum) → tuple_weight (tuple_of ds) ≡ row_weight ds
tuple_bound [] = refl
tuple_bound (d ∷ rest) = let e = tuple_bound rest in omega (arith, e)

relation_bound : (rs : List (List Datum)) → relation_weight (relation_of rs) ≡ rows_weight rs
relation_bound [] = refl
relation_bound (r ∷ rest) =
    let first = tuple_bound r in
    let others = relation_bound rest in
    omega (arith, first, others)

literal_bound : (l : Literal) → deep-Literal l ≤ datum_weight (literal_of l)
literal_bound (Number n) = omega arith
literal_bound (Text t) = omega arith
literal_bound (Bytes b) = omega arith
literal_bound (View rs) = omega (arith, relation_bound rs)

most-items : (items : List Literal) → most deep-Literal items ≤ row_weight (map literal_of items)
most-items [] = omega arith
most-items (l ∷ rest) = omega (arith, literal_bound l, most-items rest)

most-rows : (rs : List (List Datum)) → most (λ r. row_weight r + 1) rs ≤ rows_weight rs
most-rows [] = omega arith
most-rows (r ∷ rest) = omega (arith, most-rows rest)

pub literals_fall : (a : row.Inside) → deep-Literals a ≤ row_weight (map literal_of a.items.items)
literals_fall a = omega (arith, most-items a.items.items)

pub literal_rows_fall : (a : rows.Inside) → deep-LiteralRows a ≤ rows_weight a.items.items
literal_rows_fall a = omega (arith, most-rows a.items.items)
