-- A row put at the end of a table without homes, and tables into it.
use Rattle.std.proofs.Common.{◌≡◌, ℕ, ◌+◌, ◌-◌, ◌<◌, List, [], ◌∷◌, ◌++◌, length, get_or, set, take, drop, refl, sym, ◌∙◌, ap, arith, length-append}
use Rattle.std.proofs.Math.Seq.{set-append_seam}
use Rattle.std.proofs.lemmas.List.{drop_all, get_or-append_right, get_or-set_same, length-set, set-set, take_all, take_more}
use Rattle.mk_value.specs.Data.{Datum, IsRowOf}
use Rattle.mk_value.specs.Heading.{Attribute}
use Rattle.mk_value.proofs.Relations.{row_fits_length}
use Rattle.tables.specs.Rows.{with_rows_inserted}
use Rattle.tables.specs.Tables.{HasNoHomes, StoredTable, table_without_homes, with_inner}
use Rattle.tables.proofs.Homeless.{table_without_homes-inserted, table_without_homes-with_inner}
use Rattle.stream_codec.specs.Inners.{IsInner, with_inners}
use Rattle.stream_codec.specs.declared.inner.Inner.{Inner}
use Rattle.stream_codec.proofs.Inners.{length-with_inners, rows_inside, with_inners-push}

-- the rows of which one has these tables in it
abbrev pub with_tables : List (List Datum) → ℕ → List Inner → List (List Datum)
with_tables rows at is = set rows at (with_inners is (get_or rows at []))

-- one table more
pub table_more : (start old new : StoredTable) (at n : ℕ) (is : List Inner) (i : Inner) (inner : StoredTable) → at < length start.rows → length (get_or start.rows at []) ≡ length start.schema → n < length is → i ≡ get_or is n i
    → IsInner start.schema i → inner ≡ i.table → old ≡ table_without_homes start.schema (with_tables start.rows at (take n is)) → new ≡ with_inner old at i.col inner
    → new ≡ table_without_homes start.schema (with_tables start.rows at (take (n + 1) is))
table_more start old new at n is i inner within wide below here fits same was put =
    let s = start.schema in
    let before = take n is in
    let row = get_or start.rows at [] in
    let x = with_inners before row in
    let rows = set start.rows at x in
    let long = length-set start.rows at x in
    let at_x : get_or rows at [] ≡ x = get_or-set_same start.rows at x [] within in
    let wide_x : length x ≡ length s = length-with_inners before row ∙ wide in
    let col = fits.within in
    let step = table_without_homes-with_inner s i.table.schema rows i.table.rows at i.col (omega (arith, long, within)) col (let w = ap length at_x in omega (arith, w, wide_x, col)) fits.view in
    let more : take (n + 1) is ≡ before ++ i ∷ [] = take_more is n i below ∙ ap (λ (j : Inner). before ++ j ∷ []) (sym here) in
    put
    ∙ ap (λ (t : StoredTable). with_inner t at i.col inner) was
    ∙ ap (λ (t : StoredTable). with_inner (table_without_homes s rows) at i.col t) (same ∙ fits.homeless)
    ∙ sym step
    ∙ ap (λ (r : List (List Datum)). table_without_homes s r)
    (ap (λ (r : List Datum). set rows at (set r i.col (rows_inside i))) at_x
    ∙ set-set start.rows at x (set x i.col (rows_inside i))
    ∙ ap (λ (r : List Datum). set start.rows at r) (sym (with_inners-push before i row))
    ∙ ap (λ (l : List Inner). with_tables start.rows at l) (sym more))

-- a row at the end
pub record IsPut (old new : StoredTable) (row : List Datum) : Type 0 where
  pub table : new ≡ table_without_homes old.schema (old.rows ++ row ∷ [])
  pub same_schema : new.schema ≡ old.schema
  pub rows : new.rows ≡ old.rows ++ row ∷ []
  pub within : length old.rows < length new.rows
  pub here : get_or new.rows (length old.rows) [] ≡ row

pub row_put : (old new : StoredTable) (row : List Datum) → HasNoHomes old → IsRowOf row old.schema → new ≡ with_rows_inserted (length old.rows) row 1 old → IsPut old new row
row_put old new row homeless fits put =
    let s = old.schema in
    let at = length old.rows in
    let long = row_fits_length row s fits in
    let table : new ≡ table_without_homes s (old.rows ++ row ∷ []) =
    put ∙ ap (λ (t : StoredTable). with_rows_inserted at row 1 t) homeless
    ∙ sym (table_without_homes-inserted s at 1 row old.rows (omega (arith, long)))
    ∙ ap (λ (l : List (List Datum)). table_without_homes s (l ++ (row ∷ drop at old.rows))) (take_all at old.rows (omega arith))
    ∙ ap (λ (l : List (List Datum)). table_without_homes s (old.rows ++ (row ∷ l))) (drop_all at old.rows (omega arith)) in
    let rows = ap (λ (t : StoredTable). t.rows) table in
    let more = length-append old.rows (row ∷ []) in
    let counts = ap length rows in
    record {
      table = table;
      same_schema = ap (λ (t : StoredTable). t.schema) table;
      rows = rows;
      within = omega (arith, more, counts);
      here = ap (λ (r : List (List Datum)). get_or r at []) rows ∙ get_or-append_right old.rows (row ∷ []) at at [] refl (omega arith) ∙ ap (λ (j : ℕ). get_or (row ∷ []) j []) (let z : at - at ≡ 0 = omega arith in z);
    }

-- and the tables into it
pub put_whole : (old mid new : StoredTable) (row : List Datum) (is : List Inner) → IsPut old mid row → new ≡ table_without_homes mid.schema (with_tables mid.rows (length old.rows) is)
    → new ≡ table_without_homes old.schema (old.rows ++ with_inners is row ∷ [])
put_whole old mid new row is put filled =
    let at = length old.rows in
    filled ∙ ap (λ (s : List Attribute). table_without_homes s (with_tables mid.rows at is)) put.same_schema
    ∙ ap (λ (r : List (List Datum)). table_without_homes old.schema r)
    (ap (λ (r : List Datum). set mid.rows at (with_inners is r)) put.here ∙ ap (λ (rows : List (List Datum)). set rows at (with_inners is row)) put.rows ∙ set-append_seam old.rows row [] (with_inners is row))

pub homeless_of : (t : StoredTable) (s : List Attribute) (rows : List (List Datum)) → t ≡ table_without_homes s rows → HasNoHomes t
homeless_of t s rows is =
    is ∙ ap (λ (x : List Attribute). table_without_homes x rows) (sym (ap (λ (u : StoredTable). u.schema) is)) ∙ ap (λ (r : List (List Datum)). table_without_homes t.schema r) (sym (ap (λ (u : StoredTable). u.rows) is))

pub put_wide : (old mid : StoredTable) (row : List Datum) (at : ℕ) → at ≡ length old.rows → IsRowOf row old.schema → IsPut old mid row → length (get_or mid.rows at []) ≡ length mid.schema
put_wide old mid row at place fits put =
    ap (λ (k : ℕ). length (get_or mid.rows k [])) place ∙ ap length put.here ∙ row_fits_length row old.schema fits ∙ sym (ap length put.same_schema)

pub put_homeless : (old mid : StoredTable) (row : List Datum) → IsPut old mid row → HasNoHomes mid
put_homeless old mid row put = homeless_of mid old.schema (old.rows ++ row ∷ []) put.table
