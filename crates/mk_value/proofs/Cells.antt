-- The values of a table by row and column.
use Rattle.std.proofs.Common.{◌≡◌, ℕ, zero, suc, ◌<◌, List, [], ◌∷◌, length, get_or, map, pos, ap, sym, subst, ◌∙◌, arith}
use Rattle.std.proofs.lemmas.List.{length-map}
use Rattle.mk_value.specs.Heading.{Attribute}
use Rattle.mk_value.specs.Data.{Datum, integer, AreRowsOf, IsOf, IsRowOf, cell}
use Rattle.mk_value.specs.Tables.{domain_at}
use Rattle.mk_value.specs.Values.{datum_of}
use Rattle.mk_value.specs.declared.value.Value.{Value}
use Rattle.mk_value.proofs.Relations.{row_fits_length}
use Rattle.mk_value.proofs.Walks.{same_default}

-- a row that was read is one of the schema, and so has a value for each property
pub row_read : (rows : List (List Datum)) (schema : List Attribute) (i : ℕ) (row : List Datum) → AreRowsOf rows schema → i < length rows → row ≡ get_or rows i row → IsRowOf row schema
row_read rows schema i row whole p e = subst (λ r. IsRowOf r schema) (sym e) (whole.whole i row p)

pub row_read_length : (rows : List (List Datum)) (schema : List Attribute) (i : ℕ) (row : List Datum) → AreRowsOf rows schema → i < length rows → row ≡ get_or rows i row → length row ≡ length schema
row_read_length rows schema i row whole p e = row_fits_length row schema (row_read rows schema i row whole p e)

-- a value that was read from a row that was read is the table's cell
pub cell_read : (rows : List (List Datum)) (i j : ℕ) (row : List Datum) (d : Datum) → i < length rows → j < length row → row ≡ get_or rows i row → d ≡ get_or row j d → d ≡ cell rows i j
cell_read rows i j row d p q e f =
    f ∙ same_default row j d (integer (pos 0)) q ∙ ap (λ r. get_or r j (integer (pos 0))) (e ∙ same_default rows i row [] p)

-- a column of the schema is one of each row's values
pub column_in : (rows : List (List Datum)) (schema : List Attribute) (i j : ℕ) (row : List Datum) (values : List Value) → AreRowsOf rows schema → i < length rows → j < length schema
    → row ≡ get_or rows i row → map datum_of values ≡ row → j < length values
column_in rows schema i j row values whole p q e f =
    let all = ap length f in
    omega (arith, all, length-map values datum_of, row_read_length rows schema i row whole p e)

-- a row has a value for each property
pub row_length : (rows : List (List Datum)) (schema : List Attribute) (i : ℕ) → AreRowsOf rows schema → i < length rows → length (get_or rows i []) ≡ length schema
row_length rows schema i whole p = row_fits_length (get_or rows i []) schema (whole.whole i [] p)

-- a value of a row is of its property's domain
pub value_is_of : (row : List Datum) (schema : List Attribute) (j : ℕ) → IsRowOf row schema → j < length schema → IsOf (get_or row j (integer (pos 0))) (domain_at schema j)
value_is_of [] [] j h p = absurd (omega arith)
value_is_of [] (a ∷ schema) j h p = absurd h
value_is_of (d ∷ row) [] j h p = absurd h
value_is_of (d ∷ row) (a ∷ schema) zero h p = h.0
value_is_of (d ∷ row) (a ∷ schema) (suc j) h p = value_is_of row schema j h.1 (omega arith)

-- a value of a table is of its property's domain
pub cell_is_of : (rows : List (List Datum)) (schema : List Attribute) (i j : ℕ) → AreRowsOf rows schema → i < length rows → j < length schema → IsOf (cell rows i j) (domain_at schema j)
cell_is_of rows schema i j whole p q = value_is_of (get_or rows i []) schema j (whole.whole i [] p) q
