-- The rows of columns: each is a row of the schema, the value in a cell is that of its column, and the homes have the shape of the table.
use Rattle.std.proofs.Common.{◌≡◌, ℕ, zero, suc, ◌+◌, ◌<◌, List, [], ◌∷◌, length, get_or, map, All, pos, Option, None, Some, refl, ap, sym, subst, ◌∙◌, arith}
use Rattle.std.specs.List.{AllZip, range_with_len}
use Rattle.std.proofs.lemmas.List.{length-map, same_lists}
use Rattle.std.proofs.lemmas.List.Elements.{All-nil, All-cons, All-head, All-tail}
use Rattle.std.proofs.lemmas.List.FromFn.{fill_by_all, length-map-range_with_len, get_or-map-range_with_len}
use Rattle.mk_value.specs.declared.span.Span.{Span}
use Rattle.mk_value.proofs.Walks.{same_default}
use Rattle.mk_value.specs.Heading.{Domain, Heading, Attribute, attributes_of, heading_of}
use Rattle.mk_value.specs.Data.{Datum, integer, relation_of, cell, IsOf, IsRowOf, AreRowsOf}
use Rattle.mk_value.specs.Tables.{domain_at}
use Rattle.mk_value.proofs.Relations.{rows_of-relation_of, IsOf-relation}
use Rattle.mk_value.proofs.Headings.{heading_of-attributes_of}
use Rattle.bytes_col.specs.declared.home.BytesHome.{BytesHome}
use Rattle.bytes_col.specs.Strings.{long_values}
use Rattle.tables.specs.Homes.{row_homes, column_homes, column_of}
use Rattle.tables.specs.Shapes.{bytes_in, IsHomeOf, AreRowHomesOf, AreHomesOf, HasHomes}
use Rattle.tables.specs.Tables.{StoredTable}
use Rattle.tables.specs.Columns.{StoredColumn, integers, texts, views, home_of, home_of_numbers, home_of_strings, column_values, row_of_columns, rows_of_columns, table_of_columns, HasBlocks, IsTableOf, IsColumnOf, AreColumnsOf, no_column}

pub All-map : {X Y : Type 0} (f : X → Y) (P : Y → Type 0) (xs : List X) → All (λ x. P (f x)) xs → All P (map f xs)
All-map f P [] h = All-nil P
All-map f P (x ∷ xs) h = All-cons P (f x) (map f xs) (All-head (λ y. P (f y)) x xs h) (All-map f P xs (All-tail (λ y. P (f y)) x xs h))

All-then : {X : Type 0} (P Q : X → Type 0) (xs : List X) → ((x : X) → P x → Q x) → All P xs → All Q xs
All-then P Q xs f h = λ k d p. f (get_or xs k d) (h k d p)

pub map-map : {X Y Z : Type 0} (f : X → Y) (g : Y → Z) (xs : List X) → map g (map f xs) ≡ map (λ x. g (f x)) xs
map-map f g [] = refl
map-map f g (x ∷ xs) = ap (λ ys. g (f x) ∷ ys) (map-map f g xs)

pub map-same : {X : Type 0} (f : X → X) (xs : List X) → ((x : X) → f x ≡ x) → map f xs ≡ xs
map-same f [] e = refl
map-same f (x ∷ xs) e = ap (λ y. y ∷ map f xs) (e x) ∙ ap (λ ys. x ∷ ys) (map-same f xs e)

-- a column has as many values as there are rows
pub length-column_values : (n : ℕ) (e : Domain) (c : StoredColumn) → IsColumnOf n e c → length (column_values e c) ≡ n
length-column_values n Domain.integer (integers c) h = length-map c.values Datum.integer ∙ h.count
length-column_values n Domain.long (integers c) h = length-map c.values Datum.long ∙ h.count
length-column_values n Domain.text (integers c) h = absurd h
length-column_values n Domain.bytes (integers c) h = absurd h
length-column_values n (Domain.relation inner) (integers c) h = absurd h
length-column_values n Domain.integer (texts c) h = absurd h
length-column_values n Domain.long (texts c) h = absurd h
length-column_values n Domain.text (texts c) h = length-map c.values Datum.text ∙ h.count
length-column_values n Domain.bytes (texts c) h = length-map c.values Datum.bytes ∙ h.count
length-column_values n (Domain.relation inner) (texts c) h = absurd h
length-column_values n Domain.integer (views ts) h = absurd h
length-column_values n Domain.long (views ts) h = absurd h
length-column_values n Domain.text (views ts) h = absurd h
length-column_values n Domain.bytes (views ts) h = absurd h
length-column_values n (Domain.relation inner) (views ts) h = length-map ts (λ (t : StoredTable). Datum.relation (relation_of t.rows)) ∙ h.count

table_fits : (h : Heading) (t : StoredTable) → IsTableOf (attributes_of h) t → IsOf (Datum.relation (relation_of t.rows)) (Domain.relation h)
table_fits h t whole =
    let rows : AreRowsOf t.rows (attributes_of h) = subst (λ s. AreRowsOf t.rows s) whole.same_schema whole.rows in
    subst (λ g. IsOf (Datum.relation (relation_of t.rows)) (Domain.relation g)) (heading_of-attributes_of h) ((IsOf-relation t.rows (attributes_of h)).0 rows)

-- and each is of the domain
pub column_values_fit : (n : ℕ) (e : Domain) (c : StoredColumn) → IsColumnOf n e c → All (λ d. IsOf d e) (column_values e c)
column_values_fit n Domain.integer (integers c) h = All-map Datum.integer (λ d. IsOf d Domain.integer) c.values h.fit
column_values_fit n Domain.long (integers c) h = All-map Datum.long (λ d. IsOf d Domain.long) c.values h.fit
column_values_fit n Domain.text (integers c) h = absurd h
column_values_fit n Domain.bytes (integers c) h = absurd h
column_values_fit n (Domain.relation inner) (integers c) h = absurd h
column_values_fit n Domain.integer (texts c) h = absurd h
column_values_fit n Domain.long (texts c) h = absurd h
column_values_fit n Domain.text (texts c) h = All-map Datum.text (λ d. IsOf d Domain.text) c.values (λ k d p. let fits = h.fit k d p in (fits.is_text, fits.short))
column_values_fit n Domain.bytes (texts c) h = All-map Datum.bytes (λ d. IsOf d Domain.bytes) c.values h.fit
column_values_fit n (Domain.relation inner) (texts c) h = absurd h
column_values_fit n Domain.integer (views ts) h = absurd h
column_values_fit n Domain.long (views ts) h = absurd h
column_values_fit n Domain.text (views ts) h = absurd h
column_values_fit n Domain.bytes (views ts) h = absurd h
column_values_fit n (Domain.relation inner) (views ts) h =
    All-map (λ (t : StoredTable). Datum.relation (relation_of t.rows)) (λ d. IsOf d (Domain.relation inner)) ts (λ k d p. table_fits inner (get_or ts k d) (h.whole k d p))

row_fits_schema : (n i : ℕ) (schema : List Attribute) (cols : List StoredColumn) → i < n → AllZip (λ a c. IsColumnOf n a.domain c) schema cols → IsRowOf (row_of_columns i schema cols) schema
row_fits_schema n i [] [] p h = tt
row_fits_schema n i [] (c ∷ cols) p h = absurd h
row_fits_schema n i (a ∷ schema) [] p h = absurd h
row_fits_schema n i (a ∷ schema) (c ∷ cols) p h =
    let long = length-column_values n a.domain c h.0 in
    (column_values_fit n a.domain c h.0 i (integer (pos 0)) (omega (arith, long)), row_fits_schema n i schema cols p h.1)

pub length-rows_of_columns : (n : ℕ) (schema : List Attribute) (cols : List StoredColumn) → length (rows_of_columns n schema cols) ≡ n
length-rows_of_columns n schema cols = length-map-range_with_len (λ i. row_of_columns i schema cols) 0 n

-- row i
pub row-rows_of_columns : (n i : ℕ) (schema : List Attribute) (cols : List StoredColumn) (d : List Datum) → i < n → get_or (rows_of_columns n schema cols) i d ≡ row_of_columns i schema cols
row-rows_of_columns n i schema cols d p = get_or-map-range_with_len (λ j. row_of_columns j schema cols) 0 n i i d p (omega arith)

-- the rows of columns are rows of the schema
pub AreRowsOf-columns : (n : ℕ) (schema : List Attribute) (cols : List StoredColumn) → AreColumnsOf n schema cols → AreRowsOf (rows_of_columns n schema cols) schema
AreRowsOf-columns n schema cols h =
    let long = length-rows_of_columns n schema cols in
    let few = h.few in
    record {
      few = omega (arith, long, few);
      whole = λ i d p. let q : i < n = omega (arith, long) in subst (λ row. IsRowOf row schema) (sym (row-rows_of_columns n i schema cols d q)) (row_fits_schema n i schema cols q h.each);
    }

-- a column for each property
pub length-columns : (n : ℕ) (schema : List Attribute) (cols : List StoredColumn) → AllZip (λ a c. IsColumnOf n a.domain c) schema cols → length cols ≡ length schema
length-columns n [] [] h = refl
length-columns n [] (c ∷ cols) h = absurd h
length-columns n (a ∷ schema) [] h = absurd h
length-columns n (a ∷ schema) (c ∷ cols) h = let e = length-columns n schema cols h.1 in omega (arith, e)

pub column_at : (n k : ℕ) (schema : List Attribute) (cols : List StoredColumn) (d : StoredColumn) → AllZip (λ a c. IsColumnOf n a.domain c) schema cols → k < length schema → IsColumnOf n (domain_at schema k) (get_or cols k d)
column_at n k [] cols d h p = absurd (omega arith)
column_at n k (a ∷ schema) [] d h p = absurd h
column_at n zero (a ∷ schema) (c ∷ cols) d h p = h.0
column_at n (suc k) (a ∷ schema) (c ∷ cols) d h p = column_at n k schema cols d h.1 (omega arith)

-- the other way
pub columns_from : (n : ℕ) (schema : List Attribute) (cols : List StoredColumn) (d : StoredColumn) → length cols ≡ length schema
    → ((k : ℕ) → k < length schema → IsColumnOf n (domain_at schema k) (get_or cols k d)) → AllZip (λ a c. IsColumnOf n a.domain c) schema cols
columns_from n [] [] d e each = tt
columns_from n [] (c ∷ cols) d e each = absurd (omega arith)
columns_from n (a ∷ schema) [] d e each = absurd (omega arith)
columns_from n (a ∷ schema) (c ∷ cols) d e each =
    (each 0 (omega arith), columns_from n schema cols d (omega arith) (λ k p. each (suc k) (omega arith)))

value-row_of_columns : (k i : ℕ) (schema : List Attribute) (cols : List StoredColumn) (d : StoredColumn) → length cols ≡ length schema → k < length schema
    → get_or (row_of_columns i schema cols) k (integer (pos 0)) ≡ get_or (column_values (domain_at schema k) (get_or cols k d)) i (integer (pos 0))
value-row_of_columns k i [] cols d e p = absurd (omega arith)
value-row_of_columns k i (a ∷ schema) [] d e p = absurd (omega arith)
value-row_of_columns zero i (a ∷ schema) (c ∷ cols) d e p = refl
value-row_of_columns (suc k) i (a ∷ schema) (c ∷ cols) d e p = value-row_of_columns k i schema cols d (omega arith) (omega arith)

-- the value in a cell
pub cell-columns : (n i k : ℕ) (schema : List Attribute) (cols : List StoredColumn) (d : StoredColumn) → length cols ≡ length schema → i < n → k < length schema
    → cell (rows_of_columns n schema cols) i k ≡ get_or (column_values (domain_at schema k) (get_or cols k d)) i (integer (pos 0))
cell-columns n i k schema cols d e p q =
    ap (λ row. get_or row k (integer (pos 0))) (row-rows_of_columns n i schema cols [] p) ∙ value-row_of_columns k i schema cols d e q

-- the values of a column
pub column_of-columns : (n k : ℕ) (schema : List Attribute) (cols : List StoredColumn) (d : StoredColumn) → AllZip (λ a c. IsColumnOf n a.domain c) schema cols → k < length schema
    → column_of (rows_of_columns n schema cols) k ≡ column_values (domain_at schema k) (get_or cols k d)
column_of-columns n k schema cols d h q =
    let e = length-columns n schema cols h in
    let values = column_values (domain_at schema k) (get_or cols k d) in
    let at = λ (i : ℕ). get_or (row_of_columns i schema cols) k (integer (pos 0)) in
    map-map (λ i. row_of_columns i schema cols) (λ row. get_or row k (integer (pos 0))) (range_with_len 0 n)
    ∙ sym (fill_by_all at values n (integer (pos 0)) (length-column_values n (domain_at schema k) (get_or cols k d) (column_at n k schema cols d h q))
    (λ i p. sym (value-row_of_columns k i schema cols d e q)))

text_home_fits : (home : Option BytesHome) (values : List (List ℕ)) → HasBlocks home values → IsHomeOf (home_of_strings home) Domain.text (map Datum.text values)
text_home_fits None values h = tt
text_home_fits (Some home) values h =
    h ∙ ap (λ vs. length (long_values vs)) (sym (map-map Datum.text bytes_in values ∙ map-same (λ v. bytes_in (Datum.text v)) values (λ v. refl)))

bytes_home_fits : (home : Option BytesHome) (values : List (List ℕ)) → HasBlocks home values → IsHomeOf (home_of_strings home) Domain.bytes (map Datum.bytes values)
bytes_home_fits None values h = tt
bytes_home_fits (Some home) values h =
    h ∙ ap (λ vs. length (long_values vs)) (sym (map-map Datum.bytes bytes_in values ∙ map-same (λ v. bytes_in (Datum.bytes v)) values (λ v. refl)))

row_homes_fit : (h : Heading) (ts : List StoredTable) → All (IsTableOf (attributes_of h)) ts
    → AreRowHomesOf (row_homes (map (λ (t : StoredTable). t.homes) ts)) h (map (λ (t : StoredTable). Datum.relation (relation_of t.rows)) ts)
row_homes_fit h [] whole = tt
row_homes_fit h (t ∷ ts) whole =
    let first = All-head (IsTableOf (attributes_of h)) t ts whole in
    let heading : heading_of t.schema ≡ h = ap heading_of first.same_schema ∙ heading_of-attributes_of h in (
      subst (λ rows. AreHomesOf (column_homes t.homes) h 0 rows) (sym (rows_of-relation_of t.rows))
          (subst (λ g. AreHomesOf (column_homes t.homes) g 0 t.rows) heading first.homes),
      row_homes_fit h ts (All-tail (IsTableOf (attributes_of h)) t ts whole),
    )

number_home_fits : (c : Option Span) (values : List Datum) → IsHomeOf (home_of_numbers c) Domain.integer values × IsHomeOf (home_of_numbers c) Domain.long values
number_home_fits None values = (tt, tt)
number_home_fits (Some home) values = (tt, tt)

-- the home of a column has its shape
pub home_fits : (n : ℕ) (e : Domain) (c : StoredColumn) → IsColumnOf n e c → IsHomeOf (home_of c) e (column_values e c)
home_fits n Domain.integer (integers c) h = (number_home_fits c.home (map Datum.integer c.values)).0
home_fits n Domain.long (integers c) h = (number_home_fits c.home (map Datum.long c.values)).1
home_fits n Domain.text (integers c) h = absurd h
home_fits n Domain.bytes (integers c) h = absurd h
home_fits n (Domain.relation inner) (integers c) h = absurd h
home_fits n Domain.integer (texts c) h = absurd h
home_fits n Domain.long (texts c) h = absurd h
home_fits n Domain.text (texts c) h = text_home_fits c.home c.values h.home
home_fits n Domain.bytes (texts c) h = bytes_home_fits c.home c.values h.home
home_fits n (Domain.relation inner) (texts c) h = absurd h
home_fits n Domain.integer (views ts) h = absurd h
home_fits n Domain.long (views ts) h = absurd h
home_fits n Domain.text (views ts) h = absurd h
home_fits n Domain.bytes (views ts) h = absurd h
home_fits n (Domain.relation inner) (views ts) h = row_homes_fit inner ts h.whole

homes_fit_from : (n k : ℕ) (schema : List Attribute) (cols : List StoredColumn) (rows : List (List Datum)) → AllZip (λ a c. IsColumnOf n a.domain c) schema cols
    → ((m : ℕ) → m < length schema → column_of rows (k + m) ≡ column_values (domain_at schema m) (get_or cols m no_column))
    → AreHomesOf (column_homes (map home_of cols)) (heading_of schema) k rows
homes_fit_from n k [] [] rows h values = tt
homes_fit_from n k [] (c ∷ cols) rows h values = absurd h
homes_fit_from n k (a ∷ schema) [] rows h values = absurd h
homes_fit_from n k (a ∷ schema) (c ∷ cols) rows h values =
    let first : column_of rows k ≡ column_values a.domain c = ap (λ j. column_of rows j) (let e : k ≡ k + 0 = omega arith in e) ∙ values 0 (omega arith) in (
      subst (λ vs. IsHomeOf (home_of c) a.domain vs) (sym first) (home_fits n a.domain c h.0),
      homes_fit_from n (k + 1) schema cols rows h.1
          (λ m p. ap (λ j. column_of rows j) (let e : (k + 1) + m ≡ k + suc m = omega arith in e) ∙ values (suc m) (omega arith)),
    )

-- the homes of columns have the shape of the table
pub HasHomes-columns : (n : ℕ) (schema : List Attribute) (cols : List StoredColumn) → AreColumnsOf n schema cols → HasHomes (table_of_columns n schema cols)
HasHomes-columns n schema cols h =
    homes_fit_from n 0 schema cols (rows_of_columns n schema cols) h.each
    (λ m p. ap (λ j. column_of (rows_of_columns n schema cols) j) (let e : 0 + m ≡ m = omega arith in e) ∙ column_of-columns n m schema cols no_column h.each p)

heads_same : {X : Type 0} (x y : X) (xs ys : List X) → x ∷ xs ≡ y ∷ ys → x ≡ y
heads_same x y xs ys e = cc

tails_same : {X : Type 0} (x y : X) (xs ys : List X) → x ∷ xs ≡ y ∷ ys → xs ≡ ys
tails_same x y xs ys e = cc

-- two lists of as many rows of one schema are the same where all their columns are
pub same_rows : (width : ℕ) (rows others : List (List Datum)) → length rows ≡ length others → All (λ row. length row ≡ width) rows → All (λ row. length row ≡ width) others
    → ((k : ℕ) → k < width → column_of rows k ≡ column_of others k) → rows ≡ others
same_rows width [] [] e h g each = refl
same_rows width [] (r ∷ rs) e h g each = absurd (omega arith)
same_rows width (r ∷ rs) [] e h g each = absurd (omega arith)
same_rows width (r ∷ rs) (s ∷ ss) e h g each =
    let Wide = λ (row : List Datum). length row ≡ width in
    let one : length r ≡ width = All-head Wide r rs h in
    let two : length s ≡ width = All-head Wide s ss g in
    let zero_default = integer (pos 0) in
    let first : r ≡ s = same_lists r s (one ∙ sym two) (λ k d p.
    same_default r k d zero_default p ∙ heads_same (get_or r k zero_default) (get_or s k zero_default) (column_of rs k) (column_of ss k) (each k (omega (arith, one)))
    ∙ same_default s k zero_default d (omega (arith, one, two))) in
    let others : rs ≡ ss = same_rows width rs ss (omega arith) (All-tail Wide r rs h) (All-tail Wide s ss g)
    (λ k p. tails_same (get_or r k zero_default) (get_or s k zero_default) (column_of rs k) (column_of ss k) (each k p)) in
    ap (λ x. x ∷ rs) first ∙ ap (λ xs. s ∷ xs) others
