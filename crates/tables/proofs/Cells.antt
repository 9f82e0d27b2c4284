-- The values at one place of rows, as a loop over the rows reads them one by one.
use Rattle.std.proofs.Common.{◌≡◌, ℕ, ◌+◌, ◌<◌, ◌≤◌, List, [], ◌∷◌, ◌++◌, length, get_or, take, map, pos, Result, Ok, Err, ap, sym, ◌∙◌, arith}
use Rattle.std.specs.Prelude.{IfOk}
use Rattle.std.proofs.lemmas.List.{length-map, get_or-map, take_more, take_all, map-append}
use Rattle.mk_value.specs.Heading.{Attribute}
use Rattle.mk_value.specs.Data.{Datum, integer, AreRowsOf}
use Rattle.mk_value.specs.Tables.{domain_at}
use Rattle.mk_value.specs.Values.{datum_of}
use Rattle.mk_value.specs.declared.value.Value.{Value}
use Rattle.mk_value.proofs.Cells.{value_is_of}
use Rattle.mk_value.proofs.Relations.{row_fits_length}
use Rattle.mk_value.proofs.Walks.{same_default, map_read}
use Rattle.tables.specs.Homes.{column_of}
use Rattle.tables.specs.Build.{HasColumn, AreCells}

-- a row has a value at the place
pub place_in_row : (rows items : List (List Datum)) (at i : ℕ) (row : List Datum) (values : List Value) → HasColumn rows at → items ≡ rows → i < length items → row ≡ get_or items i row → map datum_of values ≡ row → at < length values
place_in_row rows items at i row values h same p read kept =
    let long = ap length same in
    let wide = h.wide i row (omega (arith, long)) in
    let here : get_or rows i row ≡ row = ap (λ rs. get_or rs i row) (sym same) ∙ sym read in
    omega (arith, ap length here, ap length kept, length-map values datum_of, wide)

-- it is the value of the column in that row
pub value_read : (rows items : List (List Datum)) (at i : ℕ) (row : List Datum) (values : List Value) (v : Value) → HasColumn rows at → items ≡ rows → i < length items → row ≡ get_or items i row → map datum_of values ≡ row
    → v ≡ get_or values at v → datum_of v ≡ get_or (column_of rows at) i (integer (pos 0))
value_read rows items at i row values v h same p read kept found =
    let within = place_in_row rows items at i row values h same p read kept in
    let long = ap length same in
    map_read datum_of values at v within found
    ∙ ap (λ ds. get_or ds at (datum_of v)) kept
    ∙ same_default row at (datum_of v) (integer (pos 0)) (omega (arith, within, ap length kept, length-map values datum_of))
    ∙ ap (λ r. get_or r at (integer (pos 0))) (read ∙ same_default items i row [] p ∙ ap (λ rs. get_or rs i []) same)
    ∙ sym (get_or-map (λ (r : List Datum). get_or r at (integer (pos 0))) rows i [] (integer (pos 0)) (omega (arith, long)))

-- one value more of a column that is read
pub column_more : {X : Type 0} (f : Datum → X) (rows items : List (List Datum)) (at i : ℕ) (d : Datum) (done new : List X) (x : X) → items ≡ rows → i < length items → d ≡ get_or (column_of rows at) i (integer (pos 0))
    → done ≡ map f (take i (column_of rows at)) → x ≡ f d → new ≡ done ++ x ∷ [] → new ≡ map f (take (i + 1) (column_of rows at))
column_more f rows items at i d done new x same p here before made more =
    let ds = column_of rows at in
    let long = length-map rows (λ (r : List Datum). get_or r at (integer (pos 0))) in
    let rest = ap length same in
    more ∙ ap (λ xs. xs ++ x ∷ []) before ∙ ap (λ y. map f (take i ds) ++ y ∷ []) (made ∙ ap f here)
    ∙ sym (ap (λ xs. map f xs) (take_more ds i (integer (pos 0)) (omega (arith, long, rest))) ∙ map-append f (take i ds) (get_or ds i (integer (pos 0)) ∷ []))

-- the whole column
pub column_read : {X : Type 0} (f : Datum → X) (rows items : List (List Datum)) (at i : ℕ) (done : List X) → items ≡ rows → length items ≤ i → done ≡ map f (take i (column_of rows at)) → done ≡ map f (column_of rows at)
column_read f rows items at i done same p before =
    let ds = column_of rows at in
    let long = length-map rows (λ (r : List Datum). get_or r at (integer (pos 0))) in
    let rest = ap length same in
    before ∙ ap (λ xs. map f xs) (take_all i ds (omega (arith, long, rest)))

-- rows of a schema have a value of each property at its place
pub cells_of_rows : (rows : List (List Datum)) (schema : List Attribute) (at : ℕ) → AreRowsOf rows schema → at < length schema → AreCells rows at (domain_at schema at)
cells_of_rows rows schema at whole p = record {
  column = record {
    few = whole.few;
    wide = λ i d q. let long = row_fits_length (get_or rows i d) schema (whole.whole i d q) in omega (arith, long);
  };
  fit = λ i d q. value_is_of (get_or rows i d) schema at (whole.whole i d q) p;
}

-- a fact of the value that a call gives, from another
pub IfOk-then : {T E : Type 0} {P Q : T → Type 0} (r : Result T E) → IfOk r P → ((x : T) → P x → Q x) → IfOk r Q
IfOk-then (Ok x) h f = f x h
IfOk-then (Err x) h f = tt

-- a value of a row that was read
pub row_value : (row : List Datum) (values : List Value) (k : ℕ) (v : Value) → k < length row → map datum_of values ≡ row → v ≡ get_or values k v → datum_of v ≡ get_or row k (integer (pos 0))
row_value row values k v p kept found =
    map_read datum_of values k v (omega (arith, ap length kept, length-map values datum_of)) found ∙ ap (λ ds. get_or ds k (datum_of v)) kept ∙ same_default row k (datum_of v) (integer (pos 0)) p
