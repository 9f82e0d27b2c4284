-- A column that is read out of a table: its values are those of the column of the rows.
use Rattle.std.proofs.Common.{◌≡◌, ℕ, ◌+◌, ◌<◌, ◌≤◌, ℤ, FitsSigned, w32, w64, List, [], ◌∷◌, ◌++◌, length, get_or, map, take, pos, Some, refl, ap, sym, subst, ◌∙◌, arith}
use Rattle.std.specs.List.{slice_get}
use Rattle.std.proofs.lemmas.List.{length-map, get_or-map, take_more, take_all}
use Rattle.std.proofs.lemmas.Option.{get_or_from_slice_get, slice_get_within}
use Rattle.mk_value.specs.Heading.{Domain, Heading, no_attributes, attribute, Attribute, attributes_of, attributes_weight, domain_weight, heading_weight}
use Rattle.mk_value.specs.Data.{Datum, integer, relation_of}
use Rattle.mk_value.specs.Lending.{Lends}
use Rattle.mk_value.specs.declared.table.Lent.TheVariants.{V}
use Rattle.mk_value.specs.Tables.{domain_at, AreNumbers, number_in, column_numbers}
use Rattle.mk_value.proofs.Relations.{rows_of-relation_of, row_fits_length}
use Rattle.mk_value.proofs.Walks.{same_default, map_read}
use Rattle.int_col.specs.Numbers.{Numbers}
use Rattle.tables.specs.Homes.{no_home, column_of}
use Rattle.tables.specs.Tables.{StoredTable, IsTable}
use Rattle.tables.specs.Columns.{StoredColumn, integers, views, home_of, column_values, rows_of_columns, table_of_columns, IsTableOf, IsColumnOf, AreColumnsOf}
use Rattle.tables.specs.Stored.{stored_of}
use Rattle.tables.specs.declared.cols.Col.{Col}
use Rattle.tables.proofs.Gathering.{map-map, length-rows_of_columns, length-columns, length-column_values, column_at, column_of-columns}

-- the columns of a table, by what is seen of it
pub table_again : (n : ℕ) (schema : List Attribute) (cols : List StoredColumn) (t : StoredTable) → table_of_columns n schema cols ≡ t → t ≡ table_of_columns (length t.rows) t.schema cols
table_again n schema cols t e =
    let rows : n ≡ length t.rows = sym (length-rows_of_columns n schema cols) ∙ ap (λ (u : StoredTable). length u.rows) e in
    sym e ∙ ap (λ m. table_of_columns m schema cols) rows ∙ ap (λ s. table_of_columns (length t.rows) s cols) (ap (λ (u : StoredTable). u.schema) e)

pub columns_again : (n : ℕ) (schema : List Attribute) (cols : List StoredColumn) (t : StoredTable) → table_of_columns n schema cols ≡ t → AreColumnsOf n schema cols → AreColumnsOf (length t.rows) t.schema cols
columns_again n schema cols t e h =
    let rows : n ≡ length t.rows = sym (length-rows_of_columns n schema cols) ∙ ap (λ (u : StoredTable). length u.rows) e in
    subst (λ s. AreColumnsOf (length t.rows) s cols) (ap (λ (u : StoredTable). u.schema) e) (subst (λ m. AreColumnsOf m schema cols) rows h)

-- a property that was read is the schema's at its place
pub domain_read : (schema : List Attribute) (k : ℕ) (a : Attribute) (e : Domain) → k < length schema → a ≡ get_or schema k a → e ≡ a.domain → domain_at schema k ≡ e
domain_read schema k a e p f g =
    ap (λ (b : Attribute). b.domain) (sym (f ∙ same_default schema k a (record { name = []; domain = Domain.integer }) p)) ∙ sym g

-- a column of the domain of property k, with the values of that column of the rows
pub record IsColumnAt (t : StoredTable) (k : ℕ) (e : Domain) (c : StoredColumn) : Type 0 where
  pub values : column_values e c ≡ column_of t.rows k
  pub whole : IsColumnOf (length (column_values e c)) e c
  pub kind : e ≡ domain_at t.schema k
  pub home : home_of c ≡ get_or t.homes k no_home

column_here : (n k : ℕ) (schema : List Attribute) (cols : List StoredColumn) (e : Domain) (c : StoredColumn) → AreColumnsOf n schema cols → k < length schema → domain_at schema k ≡ e → get_or cols k c ≡ c
    → IsColumnAt (table_of_columns n schema cols) k e c
column_here n k schema cols e c h p f g =
    let values : column_values e c ≡ column_of (rows_of_columns n schema cols) k =
    ap (λ d. column_values d c) (sym f) ∙ ap (λ x. column_values (domain_at schema k) x) (sym g) ∙ sym (column_of-columns n k schema cols c h.each p) in
    let whole : IsColumnOf n e c = subst (λ d. IsColumnOf n d c) f (subst (λ x. IsColumnOf n (domain_at schema k) x) g (column_at n k schema cols c h.each p)) in
    record {
      values = values;
      whole = subst (λ m. IsColumnOf m e c) (sym (length-column_values n e c whole)) whole;
      kind = sym f;
      home = ap home_of (sym g) ∙ sym (get_or-map home_of cols k c no_home (let long = length-columns n schema cols h.each in omega (arith, long)));
    }

pub column_read : (n k : ℕ) (schema : List Attribute) (cols : List StoredColumn) (t : StoredTable) (props : List Attribute) (a : Attribute) (e : Domain) (items : List Col) (item : Col)
    → table_of_columns n schema cols ≡ t → AreColumnsOf n schema cols → k < length t.schema → props ≡ schema → a ≡ get_or props k a → e ≡ a.domain → map stored_of items ≡ cols → item ≡ get_or items k item
    → IsColumnAt t k e (stored_of item)
column_read n k schema cols t props a e items item view h p same read kind kept found =
    let q : k < length schema = let long = ap (λ (u : StoredTable). length u.schema) view in omega (arith, long) in
    let long : k < length items = omega (arith, length-map items stored_of, ap length kept, length-columns n schema cols h.each) in
    let here : get_or cols k (stored_of item) ≡ stored_of item =
    ap (λ cs. get_or cs k (stored_of item)) (sym kept) ∙ sym (map_read stored_of items k item long found) in
    subst (λ u. IsColumnAt u k e (stored_of item)) view
    (column_here n k schema cols e (stored_of item) h q (domain_read schema k a e q (read ∙ ap (λ s. get_or s k a) same) kind) here)

-- a property has a column
pub column_within : (n k : ℕ) (schema : List Attribute) (cols : List StoredColumn) (t : StoredTable) (items : List Col) → table_of_columns n schema cols ≡ t → AreColumnsOf n schema cols → k < length t.schema
    → map stored_of items ≡ cols → k < length items
column_within n k schema cols t items view h p kept =
    let long = ap (λ (u : StoredTable). length u.schema) view in
    omega (arith, long, length-map items stored_of, ap length kept, length-columns n schema cols h.each)

back : (make : ℤ → Datum) (zs : List ℤ) → ((z : ℤ) → number_in (make z) ≡ z) → map number_in (map make zs) ≡ zs
back make [] same = refl
back make (z ∷ zs) same = ap (λ y. y ∷ map number_in (map make zs)) (same z) ∙ ap (λ ys. z ∷ ys) (back make zs same)

numbers_in : (e : Domain) (c : Numbers) → AreNumbers e → map number_in (column_values e (integers c)) ≡ c.values
numbers_in Domain.integer c h = back Datum.integer c.values (λ z. refl)
numbers_in Domain.long c h = back Datum.long c.values (λ z. refl)
numbers_in Domain.text c h = absurd h
numbers_in Domain.bytes c h = absurd h
numbers_in (Domain.relation inner) c h = absurd h

-- the numbers of a column of numbers
pub numbers_read : (e : Domain) (col : StoredColumn) (c : Numbers) → AreNumbers e → col ≡ integers c → map number_in (column_values e col) ≡ c.values
numbers_read e col c h f = ap (λ x. map number_in (column_values e x)) f ∙ numbers_in e c h

-- the numbers of a column of the rows
pub column_numbers-column_of : (rows : List (List Datum)) (k : ℕ) → column_numbers rows k ≡ map number_in (column_of rows k)
column_numbers-column_of rows k = sym (map-map (λ row. get_or row k (integer (pos 0))) number_in rows)

-- the value of a view column is the view of the table's rows
pub view_read : (h : Heading) (col : StoredColumn) (ts : List StoredTable) (row : ℕ) (t : StoredTable) → col ≡ views ts → slice_get ts row ≡ Some t
    → get_or (column_values (Domain.relation h) col) row (integer (pos 0)) ≡ Datum.relation (relation_of t.rows)
view_read h col ts row t e f =
    let view = λ (u : StoredTable). Datum.relation (relation_of u.rows) in
    ap (λ c. get_or (column_values (Domain.relation h) c) row (integer (pos 0))) e
    ∙ get_or-map view ts row t (integer (pos 0)) (slice_get_within ts row t f)
    ∙ ap view (get_or_from_slice_get ts row t t f)

pub lent_view : (h : Heading) (col : StoredColumn) (ts : List StoredTable) (row n : ℕ) (t : StoredTable) → col ≡ views ts → slice_get ts row ≡ Some t → n ≡ length t.rows
    → Lends (V n) (get_or (column_values (Domain.relation h) col) row (integer (pos 0)))
lent_view h col ts row n t e f g =
    subst (λ d. Lends (V n) d) (sym (view_read h col ts row t e f)) (g ∙ ap length (sym (rows_of-relation_of t.rows)))

-- the value of a column of numbers, which fits
pub record IsNumberRead (Fits : ℤ → Type 0) (d : Datum) (e : Datum) (z : ℤ) : Type 0 where
  pub value : d ≡ e
  pub fits : Fits z

pub integer_read : (n : ℕ) (col : StoredColumn) (c : Numbers) (row : ℕ) (z : ℤ) → IsColumnOf n Domain.integer col → col ≡ integers c → slice_get c.values row ≡ Some z
    → IsNumberRead (λ y. FitsSigned w32 y) (get_or (column_values Domain.integer col) row (integer (pos 0))) (Datum.integer z) z
integer_read n col c row z h e f =
    let within = slice_get_within c.values row z f in
    let at = get_or_from_slice_get c.values row z (pos 0) f in
    let whole : IsColumnOf n Domain.integer (integers c) = subst (λ x. IsColumnOf n Domain.integer x) e h in
    record {
      value = ap (λ x. get_or (column_values Domain.integer x) row (integer (pos 0))) e ∙ get_or-map Datum.integer c.values row (pos 0) (integer (pos 0)) within ∙ ap Datum.integer at;
      fits = subst (λ y. FitsSigned w32 y) at (whole.fit row (pos 0) within);
    }

pub long_read : (n : ℕ) (col : StoredColumn) (c : Numbers) (row : ℕ) (z : ℤ) → IsColumnOf n Domain.long col → col ≡ integers c → slice_get c.values row ≡ Some z
    → IsNumberRead (λ y. FitsSigned w64 y) (get_or (column_values Domain.long col) row (integer (pos 0))) (Datum.long z) z
long_read n col c row z h e f =
    let within = slice_get_within c.values row z f in
    let at = get_or_from_slice_get c.values row z (pos 0) f in
    let whole : IsColumnOf n Domain.long (integers c) = subst (λ x. IsColumnOf n Domain.long x) e h in
    record {
      value = ap (λ x. get_or (column_values Domain.long x) row (integer (pos 0))) e ∙ get_or-map Datum.long c.values row (pos 0) (integer (pos 0)) within ∙ ap Datum.long at;
      fits = subst (λ y. FitsSigned w64 y) at (whole.fit row (pos 0) within);
    }

attributes_weight-attributes_of : (h : Heading) → attributes_weight (attributes_of h) ≡ heading_weight h
attributes_weight-attributes_of no_attributes = refl
attributes_weight-attributes_of (attribute n d rest) = let e = attributes_weight-attributes_of rest in omega (arith, e)

-- a table in a row of a view column is of the schema of the property
pub inner_read : (n : ℕ) (h : Heading) (col : StoredColumn) (ts : List StoredTable) (row : ℕ) (t : StoredTable) → IsColumnOf n (Domain.relation h) col → col ≡ views ts → slice_get ts row ≡ Some t
    → IsTableOf (attributes_of h) t
inner_read n h col ts row t whole e f =
    let inner : IsColumnOf n (Domain.relation h) (views ts) = subst (λ x. IsColumnOf n (Domain.relation h) x) e whole in
    subst (IsTableOf (attributes_of h)) (get_or_from_slice_get ts row t t f) (inner.whole row t (slice_get_within ts row t f))

pub inner_lighter : (n : ℕ) (h : Heading) (col : StoredColumn) (ts : List StoredTable) (row : ℕ) (t : StoredTable) → IsColumnOf n (Domain.relation h) col → col ≡ views ts → slice_get ts row ≡ Some t
    → attributes_weight t.schema + 2 ≤ domain_weight (Domain.relation h)
inner_lighter n h col ts row t whole e f =
    let inner = inner_read n h col ts row t whole e f in
    omega (arith, ap attributes_weight inner.same_schema, attributes_weight-attributes_of h)

-- each row has a value for each property
pub row_long : (t : StoredTable) (i : ℕ) → IsTable t → i < length t.rows → length (get_or t.rows i []) ≡ length t.schema
row_long t i whole p = row_fits_length (get_or t.rows i []) t.schema (whole.rows.whole i [] p)

pub length-column_of : (rows : List (List Datum)) (k : ℕ) → length (column_of rows k) ≡ length rows
length-column_of rows k = length-map rows (λ (row : List Datum). get_or row k (integer (pos 0)))

-- a row that is read value by value
pub row_more : (t : StoredTable) (i k : ℕ) (done new : List Datum) (d : Datum) (values : List Datum) → IsTable t → i < length t.rows → k < length t.schema → done ≡ take k (get_or t.rows i [])
    → values ≡ column_of t.rows k → d ≡ get_or values i (integer (pos 0)) → new ≡ done ++ d ∷ [] → new ≡ take (k + 1) (get_or t.rows i [])
row_more t i k done new d values whole p q e f g h =
    let row = get_or t.rows i [] in
    let long = row_long t i whole p in
    let here : d ≡ get_or row k (integer (pos 0)) =
    g ∙ ap (λ vs. get_or vs i (integer (pos 0))) f ∙ get_or-map (λ (r : List Datum). get_or r k (integer (pos 0))) t.rows i [] (integer (pos 0)) p in
    h ∙ ap (λ ds. ds ++ d ∷ []) e ∙ ap (λ x. take k row ++ x ∷ []) here ∙ sym (take_more row k (integer (pos 0)) (omega (arith, long)))

pub row_full : (t : StoredTable) (i k : ℕ) (done : List Datum) → IsTable t → i < length t.rows → length t.schema ≤ k → done ≡ take k (get_or t.rows i []) → done ≡ get_or t.rows i []
row_full t i k done whole p q e = let long = row_long t i whole p in e ∙ take_all k (get_or t.rows i []) (omega (arith, long))
