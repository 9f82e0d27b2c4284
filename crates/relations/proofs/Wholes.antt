-- Rows that are made of whole ones are whole.
use Rattle.std.proofs.Common.{◌≡◌, ℕ, ◌<◌, ◌≤◌, pos, List, [], ◌∷◌, length, get_or, map, drop, All, ap, sym, subst, arith}
use Rattle.std.proofs.lemmas.List.{length-map}
use Rattle.std.proofs.lemmas.List.Elements.{All-map, All-weaker, All-head, All-tail}
use Rattle.mk_value.specs.Limits.{max_rows}
use Rattle.mk_value.specs.Heading.{Domain, Attribute}
use Rattle.mk_value.specs.Data.{Datum, integer, AreRowsOf, IsRowOf, IsOf}
use Rattle.mk_value.specs.Tables.{domain_at}
use Rattle.relations.specs.Columns.{AreColumns, values_at}
use Rattle.relations.specs.Rows.{rows_at}
use Rattle.mk_value.proofs.Cells.{value_is_of}

pub rows_at_fit : (rows : List (List Datum)) (schema : List Attribute) (positions : List ℕ) → AreRowsOf rows schema → All (λ i. i < length rows) positions → length positions ≤ max_rows → AreRowsOf (rows_at rows positions) schema
rows_at_fit rows schema positions whole within few = record {
  few = let e = length-map positions (λ i. get_or rows i []) in omega arith;
  whole = All-map (λ row. IsRowOf row schema) (λ i. get_or rows i []) positions
      (All-weaker (λ i. i < length rows) (λ i. IsRowOf (get_or rows i []) schema) (λ i p. whole.whole i [] p) positions within);
}

values_at_fit : (row : List Datum) (schema : List Attribute) (columns : List ℕ) (properties : List Attribute) → IsRowOf row schema → All (λ j. j < length schema) columns
    → map (λ (a : Attribute). a.domain) properties ≡ map (λ j. domain_at schema j) columns → IsRowOf (values_at columns row) properties
values_at_fit row schema [] [] h within e = tt
values_at_fit row schema [] (a ∷ properties) h within e = absurd (let n = ap length e in omega arith)
values_at_fit row schema (j ∷ columns) [] h within e = absurd (let n = ap length e in omega arith)
values_at_fit row schema (j ∷ columns) (a ∷ properties) h within e =
    let first : a.domain ≡ domain_at schema j = ap (λ (ds : List Domain). get_or ds 0 Domain.integer) e in
    let rest : map (λ (a : Attribute). a.domain) properties ≡ map (λ j. domain_at schema j) columns = ap (λ (ds : List Domain). drop 1 ds) e in (
      subst (λ (d : Domain). IsOf (get_or row j (integer (pos 0))) d) (sym first) (value_is_of row schema j h (All-head (λ j. j < length schema) j columns within)),
      values_at_fit row schema columns properties h (All-tail (λ j. j < length schema) j columns within) rest,
    )

pub columns_fit : (rows : List (List Datum)) (schema : List Attribute) (columns : List ℕ) (properties : List Attribute) → AreRowsOf rows schema → AreColumns schema columns properties → AreRowsOf (map (values_at columns) rows) properties
columns_fit rows schema columns properties whole h = record {
  few = let e = length-map rows (values_at columns) in let f = whole.few in omega arith;
  whole = All-map (λ row. IsRowOf row properties) (values_at columns) rows
      (All-weaker (λ row. IsRowOf row schema) (λ row. IsRowOf (values_at columns row) properties) (λ row p. values_at_fit row schema columns properties p h.in_range h.kinds) rows whole.whole);
}
