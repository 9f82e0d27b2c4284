-- Tables that are made of whole ones are whole.
use Rattle.std.proofs.Common.{◌≡◌, ℕ, ◌<◌, ◌≤◌, List, [], ◌∷◌, ◌++◌, length, map, All, refl, sym, subst, arith}
use Rattle.std.proofs.lemmas.List.Elements.{All-nil, All-cons, All-head, All-tail}
use Rattle.mk_value.specs.Limits.{max_rows}
use Rattle.mk_value.specs.Heading.{Attribute, IsHeading}
use Rattle.mk_value.specs.Data.{Datum, AreRowsOf, IsRowOf}
use Rattle.derived.specs.Joining.{zipped}
use Rattle.derived.specs.Layers.{Layered}
use Rattle.relations.specs.Columns.{AreColumns, properties_at, values_at}
use Rattle.derived.specs.Nodes.{IsBeside, IsWhole}
use Rattle.derived.proofs.Besides.{zipped_long}
use Rattle.relations.specs.Rows.{rows_at}
use Rattle.relations.proofs.Projections.{are_columns}
use Rattle.relations.proofs.Wholes.{rows_at_fit, columns_fit}

-- a table is whole where the rows at these positions of a whole table are its rows
pub gathered_whole : (base b : Layered) (positions : List ℕ) (l : ℕ) → b ≡ base → IsHeading base.schema → AreRowsOf base.rows base.schema → length positions ≤ max_rows
    → All (λ i. i < length base.rows) positions → IsWhole (record { schema = b.schema; rows = rows_at b.rows positions; layers = l }) × All (λ i. i < length b.rows) positions
gathered_whole base b positions l e heading whole few within =
    let P : Layered → Type 0 = λ t. IsWhole (record { schema = t.schema; rows = rows_at t.rows positions; layers = l }) × All (λ i. i < length t.rows) positions in
    let at : P base = (record { schema = heading; rows = rows_at_fit base.rows base.schema positions whole within few }, within) in
    subst P (sym e) at

pub columns_whole : (base b : Layered) (columns : List ℕ) (properties : List Attribute) (l : ℕ) → b ≡ base → IsHeading properties → AreRowsOf base.rows base.schema → AreColumns base.schema columns properties
    → IsWhole (record { schema = properties; rows = map (values_at columns) b.rows; layers = l }) × AreColumns b.schema columns properties
columns_whole base b columns properties l e heading whole h =
    let P : Layered → Type 0 = λ t. IsWhole (record { schema = properties; rows = map (values_at columns) t.rows; layers = l }) × AreColumns t.schema columns properties in
    let at : P base = (record { schema = heading; rows = columns_fit base.rows base.schema columns properties whole h }, h) in
    subst P (sym e) at

-- rows of two schemas one behind the other
pub fits_append : (row more : List Datum) (schema properties : List Attribute) → IsRowOf row schema → IsRowOf more properties → IsRowOf (row ++ more) (schema ++ properties)
fits_append [] more [] properties h g = g
fits_append [] more (a ∷ schema) properties h g = absurd h
fits_append (d ∷ row) more [] properties h g = absurd h
fits_append (d ∷ row) more (a ∷ schema) properties h g = (h.0, fits_append row more schema properties h.1 g)

zipped_all : {X Y Z : Type 0} (P : X → Type 0) (Q : Y → Type 0) (R : Z → Type 0) (f : X → Y → Z) → ((x : X) (y : Y) → P x → Q y → R (f x y)) → (xs : List X) (ys : List Y) → All P xs → All Q ys → All R (zipped f xs ys)
zipped_all P Q R f h [] ys p q = All-nil R
zipped_all P Q R f h (x ∷ xs) [] p q = All-nil R
zipped_all P Q R f h (x ∷ xs) (y ∷ ys) p q =
    All-cons R (f x y) (zipped f xs ys) (h x y (All-head P x xs p) (All-head Q y ys q)) (zipped_all P Q R f h xs ys (All-tail P x xs p) (All-tail Q y ys q))

-- the values of a row in columns
values_fit : (row : List Datum) (schema : List Attribute) (columns : List ℕ) → IsRowOf row schema → All (λ j. j < length schema) columns → IsRowOf (values_at columns row) (properties_at schema columns)
values_fit row schema columns h within =
    let one = columns_fit (row ∷ []) schema columns (properties_at schema columns)
    (record { few = omega arith; whole = All-cons (λ row. IsRowOf row schema) row [] h (All-nil (λ row. IsRowOf row schema)) }) (are_columns schema (properties_at schema columns) columns within refl) in
    All-head (λ row. IsRowOf row (properties_at schema columns)) (values_at columns row) [] one.whole

pub beside_whole : (first f second s : Layered) (columns : List ℕ) (properties : List Attribute) (l : ℕ) → f ≡ first → s ≡ second → IsHeading properties → AreRowsOf first.rows first.schema → AreRowsOf second.rows second.schema
    → IsBeside first second columns properties
    → IsWhole (record { schema = properties; rows = zipped (λ one two. one ++ values_at columns two) f.rows s.rows; layers = l }) × IsBeside f s columns properties
beside_whole first f second s columns properties l e g heading fits suits h =
    let P : Layered → Layered → Type 0 = λ x y. IsWhole (record { schema = properties; rows = zipped (λ one two. one ++ values_at columns two) x.rows y.rows; layers = l }) × IsBeside x y columns properties in
    let long = zipped_long (λ one two. one ++ values_at columns two) first.rows second.rows h.as_many in
    let few = fits.few in
    let rows : All (λ row. IsRowOf row properties) (zipped (λ one two. one ++ values_at columns two) first.rows second.rows) =
    subst (λ (p : List Attribute). All (λ row. IsRowOf row p) (zipped (λ one two. one ++ values_at columns two) first.rows second.rows)) (sym h.schemas)
    (zipped_all (λ row. IsRowOf row first.schema) (λ row. IsRowOf row second.schema) (λ row. IsRowOf row (first.schema ++ properties_at second.schema columns)) (λ one two. one ++ values_at columns two)
    (λ one two p q. fits_append one (values_at columns two) first.schema (properties_at second.schema columns) p (values_fit two second.schema columns q h.in_range)) first.rows second.rows fits.whole suits.whole) in
    let at : P first second = (record { schema = heading; rows = record { few = omega arith; whole = rows } }, h) in
    subst (λ x. P x s) (sym e) (subst (P first) (sym g) at)
