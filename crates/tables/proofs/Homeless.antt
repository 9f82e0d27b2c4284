-- Tables no column of which has a home: what an edit leaves of one is again such a table, of the edited rows.
use Rattle.std.proofs.Common.{◌≡◌, ◌≢◌, ℕ, zero, suc, ◌+◌, ◌<◌, ◌≤◌, ◌⊎◌, ⊎_elim, inl, inr, List, [], ◌∷◌, ◌++◌, length, get_or, set, take, drop, map, replicate, pos, refl, ap, sym, ◌∙◌, arith, add-one, add-zero, zero-add, drop-cons}
use Rattle.std.proofs.lemmas.List.{take-append-drop, get_or-map, get_or-set_same, get_or-set_other, set-get_or, map-set, length-map, length-set, same_lists}
use Rattle.std.proofs.lemmas.Bool.{cases_lt}
use Rattle.mk_value.specs.Heading.{Domain, Attribute, heading_of}
use Rattle.mk_value.specs.Data.{Datum, integer, relation, relation_of, cell}
use Rattle.mk_value.specs.Tables.{domain_at}
use Rattle.mk_value.proofs.Headings.{attributes_of-heading_of}
use Rattle.mk_value.proofs.Relations.{rows_of-relation_of}
use Rattle.tables.specs.Homes.{Home, no_home, tables, row_homes, column_of, rows_in, empty_home, empty_homes_from, empty_homes, empty_homes_in}
use Rattle.tables.specs.Tables.{StoredTable, inner_schema, inner_table, home_with, with_value, with_inner, table_without_homes, homes_in}
use Rattle.tables.specs.Rows.{inserted, removed, home_inserted, homes_inserted, home_removed, with_rows_inserted, with_rows_removed}
use Rattle.tables.proofs.Lists.{map-inserted, map-removed, each_of-row_homes}

pub same_or_not : (m k : ℕ) → (m ≡ k) ⊎ (m ≢ k)
same_or_not m k = ⊎_elim (λ h. inr (λ e. absurd (omega arith))) (λ h. ⊎_elim (λ g. inr (λ e. absurd (omega arith))) (λ g. inl (omega arith)) (cases_lt k m)) (cases_lt m k)

-- the value of a row at a place
abbrev value_at : List Datum → ℕ → Datum
value_at row k = get_or row k (integer (pos 0))

pub empty_home-inserted : (e : Domain) (at n : ℕ) (d : Datum) (values : List Datum) → empty_home e (inserted at n d values) ≡ home_inserted at n e d (empty_home e values)
empty_home-inserted Domain.integer at n d values = refl
empty_home-inserted Domain.long at n d values = refl
empty_home-inserted Domain.text at n d values = refl
empty_home-inserted Domain.bytes at n d values = refl
empty_home-inserted (Domain.relation h) at n d values =
    let f = λ (v : Datum). empty_homes_from h 0 (rows_in v) in
    ap (λ rs. tables (row_homes rs)) (map-inserted f at n d values ∙ ap (λ rs. inserted at n (f d) rs) (sym (each_of-row_homes (map f values))))

empty_homes_from-inserted : (schema : List Attribute) (k at n : ℕ) (row : List Datum) (rows : List (List Datum)) → k + length schema ≤ length row
    → empty_homes_from (heading_of schema) k (inserted at n row rows) ≡ homes_inserted at n schema (drop k row) (empty_homes_from (heading_of schema) k rows)
empty_homes_from-inserted [] k at n row rows p = refl
empty_homes_from-inserted (a ∷ schema) k at n row rows p =
    let split : drop k row ≡ value_at row k ∷ drop (k + 1) row =
    rw add-one (drop-cons row k (integer (pos 0)) (omega arith)) in
    let first : empty_home a.domain (column_of (inserted at n row rows) k) ≡ home_inserted at n a.domain (value_at row k) (empty_home a.domain (column_of rows k)) =
    ap (λ values. empty_home a.domain values) (map-inserted (λ (r : List Datum). value_at r k) at n row rows)
    ∙ empty_home-inserted a.domain at n (value_at row k) (column_of rows k) in
    let others = empty_homes_from-inserted schema (k + 1) at n row rows (omega arith) in
    ap (λ h. h ∷ empty_homes_from (heading_of schema) (k + 1) (inserted at n row rows)) first
    ∙ ap (λ hs. home_inserted at n a.domain (value_at row k) (empty_home a.domain (column_of rows k)) ∷ hs) others
    ∙ ap (λ ds. homes_inserted at n (a ∷ schema) ds (empty_homes_from (heading_of (a ∷ schema)) k rows)) (sym split)

-- rows put in
pub table_without_homes-inserted : (schema : List Attribute) (at n : ℕ) (row : List Datum) (rows : List (List Datum)) → length schema ≤ length row
    → table_without_homes schema (take at rows ++ (replicate n row ++ drop at rows)) ≡ with_rows_inserted at row n (table_without_homes schema rows)
table_without_homes-inserted schema at zero row rows p = ap (λ rs. table_without_homes schema rs) (take-append-drop at rows)
table_without_homes-inserted schema at (suc n) row rows p =
    ap (λ hs. let t : StoredTable = record { schema = schema; rows = inserted at (suc n) row rows; homes = hs } in t)
    (empty_homes_from-inserted schema 0 at (suc n) row rows (omega arith))

empty_home-removed : (e : Domain) (at n : ℕ) (values : List Datum) → empty_home e (removed at n values) ≡ home_removed at n (empty_home e values)
empty_home-removed Domain.integer at n values = refl
empty_home-removed Domain.long at n values = refl
empty_home-removed Domain.text at n values = refl
empty_home-removed Domain.bytes at n values = refl
empty_home-removed (Domain.relation h) at n values =
    let f = λ (v : Datum). empty_homes_from h 0 (rows_in v) in
    ap (λ rs. tables (row_homes rs)) (map-removed f at n values ∙ ap (λ rs. removed at n rs) (sym (each_of-row_homes (map f values))))

empty_homes_from-removed : (schema : List Attribute) (k at n : ℕ) (rows : List (List Datum))
    → empty_homes_from (heading_of schema) k (removed at n rows) ≡ map (home_removed at n) (empty_homes_from (heading_of schema) k rows)
empty_homes_from-removed [] k at n rows = refl
empty_homes_from-removed (a ∷ schema) k at n rows =
    let first : empty_home a.domain (column_of (removed at n rows) k) ≡ home_removed at n (empty_home a.domain (column_of rows k)) =
    ap (λ values. empty_home a.domain values) (map-removed (λ (r : List Datum). value_at r k) at n rows)
    ∙ empty_home-removed a.domain at n (column_of rows k) in
    ap (λ h. h ∷ empty_homes_from (heading_of schema) (k + 1) (removed at n rows)) first
    ∙ ap (λ hs. home_removed at n (empty_home a.domain (column_of rows k)) ∷ hs) (empty_homes_from-removed schema (k + 1) at n rows)

-- rows removed
pub table_without_homes-removed : (schema : List Attribute) (at n : ℕ) (rows : List (List Datum))
    → table_without_homes schema (take at rows ++ drop (at + n) rows) ≡ with_rows_removed at n (table_without_homes schema rows)
table_without_homes-removed schema at zero rows = ap (λ rs. table_without_homes schema rs) (ap (λ k. take at rows ++ drop k rows) (add-zero at) ∙ take-append-drop at rows)
table_without_homes-removed schema at (suc n) rows =
    ap (λ hs. let t : StoredTable = record { schema = schema; rows = removed at (suc n) rows; homes = hs } in t) (empty_homes_from-removed schema 0 at (suc n) rows)

-- The homes column by column.
pub length-empty_homes_from : (schema : List Attribute) (k : ℕ) (rows : List (List Datum)) → length (empty_homes_from (heading_of schema) k rows) ≡ length schema
length-empty_homes_from [] k rows = refl
length-empty_homes_from (a ∷ schema) k rows = let e = length-empty_homes_from schema (k + 1) rows in omega (arith, e)

abbrev no_attribute : Attribute
no_attribute = record { name = []; domain = Domain.integer }

get_or-empty_homes_from : (schema : List Attribute) (k m : ℕ) (rows : List (List Datum)) (d : Home) → m < length schema
    → get_or (empty_homes_from (heading_of schema) k rows) m d ≡ empty_home (domain_at schema m) (column_of rows (k + m))
get_or-empty_homes_from [] k m rows d p = absurd (omega arith)
get_or-empty_homes_from (a ∷ schema) k zero rows d p = ap (λ j. empty_home a.domain (column_of rows j)) (let e : k ≡ k + 0 = omega arith in e)
get_or-empty_homes_from (a ∷ schema) k (suc m) rows d p =
    get_or-empty_homes_from schema (k + 1) m rows d (omega arith)
    ∙ ap (λ j. empty_home (domain_at schema m) (column_of rows j)) (let e : (k + 1) + m ≡ k + suc m = omega arith in e)

-- the home of the column at a place
pub get_or-empty : (schema : List Attribute) (m : ℕ) (rows : List (List Datum)) (d : Home) → m < length schema → get_or (empty_homes schema rows) m d ≡ empty_home (domain_at schema m) (column_of rows m)
get_or-empty schema m rows d p = get_or-empty_homes_from schema 0 m rows d p ∙ ap (λ j. empty_home (domain_at schema m) (column_of rows j)) (zero-add m)

pub column-set : (rows : List (List Datum)) (i j m : ℕ) (d : Datum) → i < length rows → m ≢ j → column_of (set rows i (set (get_or rows i []) j d)) m ≡ column_of rows m
column-set rows i j m d p ne =
    let value = λ (r : List Datum). value_at r m in
    let row = get_or rows i [] in
    map-set value rows i (set row j d)
    ∙ ap (λ v. set (column_of rows m) i v) (get_or-set_other row j m d (integer (pos 0)) ne ∙ sym (get_or-map value rows i [] (integer (pos 0)) p))
    ∙ set-get_or (column_of rows m) i (integer (pos 0))

pub column-set_same : (rows : List (List Datum)) (i j : ℕ) (d : Datum) → j < length (get_or rows i []) → column_of (set rows i (set (get_or rows i []) j d)) j ≡ set (column_of rows j) i d
column-set_same rows i j d p =
    let row = get_or rows i [] in
    map-set (λ (r : List Datum). value_at r j) rows i (set row j d) ∙ ap (λ v. set (column_of rows j) i v) (get_or-set_same row j d (integer (pos 0)) p)

empty_home-set : (e : Domain) (i : ℕ) (d : Datum) (values : List Datum) → empty_home e (set values i d) ≡ home_with i (empty_homes_in e d) (empty_home e values)
empty_home-set Domain.integer i d values = refl
empty_home-set Domain.long i d values = refl
empty_home-set Domain.text i d values = refl
empty_home-set Domain.bytes i d values = refl
empty_home-set (Domain.relation h) i d values =
    let f = λ (v : Datum). empty_homes_from h 0 (rows_in v) in
    ap (λ rs. tables (row_homes rs)) (map-set f values i d ∙ ap (λ rs. set rs i (f d)) (sym (each_of-row_homes (map f values))))

-- column by column: the one that was set, and the others
home-set : (schema : List Attribute) (rows : List (List Datum)) (i k m : ℕ) (d : Datum) (x : Home) → i < length rows → k < length schema → k < length (get_or rows i []) → m < length schema
    → get_or (empty_homes schema (set rows i (set (get_or rows i []) k d))) m x
    ≡ get_or (set (empty_homes schema rows) k (home_with i (empty_homes_in (domain_at schema k) d) (get_or (empty_homes schema rows) k no_home))) m x
home-set schema rows i k m d x p q r s =
    let homes = empty_homes schema rows in
    let long = length-empty_homes_from schema 0 rows in
    let new = get_or-empty schema m (set rows i (set (get_or rows i []) k d)) x s in
    let old : get_or homes m x ≡ empty_home (domain_at schema m) (column_of rows m) = get_or-empty schema m rows x s in
    let was : get_or homes k no_home ≡ empty_home (domain_at schema k) (column_of rows k) = get_or-empty schema k rows no_home q in
    ⊎_elim
    (λ (same : m ≡ k).
    let here : column_of (set rows i (set (get_or rows i []) k d)) m ≡ set (column_of rows k) i d =
    ap (λ j. column_of (set rows i (set (get_or rows i []) k d)) j) same ∙ column-set_same rows i k d r in
    new ∙ ap (λ values. empty_home (domain_at schema m) values) here ∙ ap (λ j. empty_home (domain_at schema j) (set (column_of rows k) i d)) same
    ∙ empty_home-set (domain_at schema k) i d (column_of rows k)
    ∙ ap (λ h. home_with i (empty_homes_in (domain_at schema k) d) h) (sym was)
    ∙ sym (get_or-set_same homes k (home_with i (empty_homes_in (domain_at schema k) d) (get_or homes k no_home)) x (omega (arith, long)))
    ∙ ap (λ j. get_or (set homes k (home_with i (empty_homes_in (domain_at schema k) d) (get_or homes k no_home))) j x) (sym same))
    (λ (other : m ≢ k).
    new ∙ ap (λ values. empty_home (domain_at schema m) values) (column-set rows i k m d p other) ∙ sym old
    ∙ sym (get_or-set_other homes k m (home_with i (empty_homes_in (domain_at schema k) d) (get_or homes k no_home)) x other))
    (same_or_not m k)

-- a value given another
pub table_without_homes-with_value : (schema : List Attribute) (rows : List (List Datum)) (i k : ℕ) (d : Datum) → i < length rows → k < length schema → k < length (get_or rows i [])
    → table_without_homes schema (set rows i (set (get_or rows i []) k d)) ≡ with_value (table_without_homes schema rows) i k d (empty_homes_in (domain_at schema k) d)
table_without_homes-with_value schema rows i k d p q r =
    let homes = empty_homes schema rows in
    let new = empty_homes schema (set rows i (set (get_or rows i []) k d)) in
    let old = set homes k (home_with i (empty_homes_in (domain_at schema k) d) (get_or homes k no_home)) in
    let long = length-empty_homes_from schema 0 (set rows i (set (get_or rows i []) k d)) in
    let long_old : length old ≡ length schema = length-set homes k _ ∙ length-empty_homes_from schema 0 rows in
    ap (λ hs. let t : StoredTable = record { schema = schema; rows = set rows i (set (get_or rows i []) k d); homes = hs } in t)
    (same_lists new old (long ∙ sym long_old) (λ m x h. home-set schema rows i k m d x p q r (omega (arith, long))))

-- the table in a cell of a view column
pub inner_table-empty : (schema inner : List Attribute) (rows : List (List Datum)) (i k : ℕ) → i < length rows → k < length schema → domain_at schema k ≡ Domain.relation (heading_of inner)
    → inner_table (table_without_homes schema rows) i k ≡ table_without_homes inner (rows_in (cell rows i k))
inner_table-empty schema inner rows i k p q e =
    let f = λ (v : Datum). empty_homes_from (heading_of inner) 0 (rows_in v) in
    let column = column_of rows k in
    let long = length-map rows (λ (r : List Datum). value_at r k) in
    let home : get_or (empty_homes schema rows) k no_home ≡ tables (row_homes (map f column)) =
    get_or-empty schema k rows no_home q ∙ ap (λ d. empty_home d column) e in
    let homes : homes_in (get_or (empty_homes schema rows) k no_home) i ≡ empty_homes inner (rows_in (cell rows i k)) =
    ap (λ h. homes_in h i) home
    ∙ ap (λ hs. get_or hs i []) (each_of-row_homes (map f column))
    ∙ get_or-map f column i (integer (pos 0)) [] (omega (arith, long))
    ∙ ap f (get_or-map (λ (r : List Datum). value_at r k) rows i [] (integer (pos 0)) p) in
    let attributes : inner_schema (domain_at schema k) ≡ inner = ap inner_schema e ∙ attributes_of-heading_of inner in
    ap (λ hs. let t : StoredTable = record { schema = inner_schema (domain_at schema k); rows = rows_in (cell rows i k); homes = hs } in t) homes
    ∙ ap (λ s. let t : StoredTable = record { schema = s; rows = rows_in (cell rows i k); homes = empty_homes inner (rows_in (cell rows i k)) } in t) attributes

-- a view given other rows, which have no homes
pub table_without_homes-with_inner : (schema inner : List Attribute) (rows inner_rows : List (List Datum)) (i k : ℕ) → i < length rows → k < length schema → k < length (get_or rows i [])
    → domain_at schema k ≡ Domain.relation (heading_of inner)
    → table_without_homes schema (set rows i (set (get_or rows i []) k (relation (relation_of inner_rows)))) ≡ with_inner (table_without_homes schema rows) i k (table_without_homes inner inner_rows)
table_without_homes-with_inner schema inner rows inner_rows i k p q r e =
    let d = relation (relation_of inner_rows) in
    let homes : empty_homes_in (domain_at schema k) d ≡ empty_homes inner inner_rows =
    ap (λ (e : Domain). empty_homes_in e d) e ∙ ap (λ rs. empty_homes_from (heading_of inner) 0 rs) (rows_of-relation_of inner_rows) in
    table_without_homes-with_value schema rows i k d p q r ∙ ap (λ hs. with_value (table_without_homes schema rows) i k d hs) homes
