-- The columns that a directory has are those of a table, and the tables those of a view column.
use Rattle.std.proofs.Common.{◌≡◌, ℕ, suc, ◌+◌, ◌<◌, List, [], ◌∷◌, ◌++◌, length, get_or, map, All, refl, ap, sym, subst, ◌∙◌, arith}
use Rattle.std.proofs.lemmas.List.Elements.{All-nil, All-append, All-cons}
use Rattle.mk_value.specs.Heading.{Domain, Attribute, heading_of}
use Rattle.mk_value.specs.Data.{Datum, relation_of, rows_of}
use Rattle.mk_value.specs.Tables.{domain_at}
use Rattle.mk_value.proofs.Relations.{rows_of-relation_of}
use Rattle.mk_value.proofs.Headings.{attributes_of-heading_of}
use Rattle.commit_writes.specs.Blocks.{Block}
use Rattle.dir_codec.specs.Dir.{body, Body, bodies_from, count_bodies, entry, Entry, entries_from}
use Rattle.tables.specs.Homes.{Home, column_homes, column_of, row_homes}
use Rattle.tables.specs.Tables.{StoredTable}
use Rattle.tables.specs.Blocks.{plain_from, plain_in, plain_rows}
use Rattle.tables.specs.Columns.{StoredColumn, views, no_column, column_values, home_of, rows_of_columns, table_of_columns, AreColumnsOf, IsColumnOf, IsTableOf}
use Rattle.tables.proofs.Gathering.{column_of-columns}
use Rattle.recovery.specs.Commits.{bodies_of, entries_of, entry_of}
use Rattle.recovery.specs.Found.{AreColumnsFound, AreFormed, AreTablesFound, HasForm, IsColumnFound, IsFound, IsTableFound}
use Rattle.recovery.proofs.EntriesOf.{zip-append}

-- the columns are the ones that the rows have from the place k on
abbrev AreFrom : ℕ → List (List Datum) → List Attribute → List StoredColumn → Type 0
AreFrom k rows schema cols = (m : ℕ) → m < length schema → column_of rows (k + m) ≡ column_values (domain_at schema m) (get_or cols m no_column)

columns_found : (P : Block → Type 0) (k : ℕ) (rows : List (List Datum)) (schema : List Attribute) (entries : List Entry) (cols : List StoredColumn) → AreFrom k rows schema cols → AreColumnsFound P schema entries cols
    → (entries_from entries ≡ entries_of (column_homes (map home_of cols)) (heading_of schema) k rows) × All (IsFound P) (plain_from (column_homes (map home_of cols)) (heading_of schema) k rows)
columns_found P k rows [] [] [] values h = (refl, All-nil (IsFound P))
columns_found P k rows [] [] (c ∷ cols) values h = absurd h
columns_found P k rows [] (e ∷ entries) cols values h = absurd h
columns_found P k rows (a ∷ schema) [] cols values h = absurd h
columns_found P k rows (a ∷ schema) (e ∷ entries) [] values h = absurd h
columns_found P k rows (a ∷ schema) (e ∷ entries) (c ∷ cols) values h =
    let here : column_of rows k ≡ column_values a.domain c = ap (λ j. column_of rows j) (let p : k ≡ k + 0 = omega arith in p) ∙ values 0 (omega arith) in
    let others = columns_found P (k + 1) rows schema entries cols
    (λ m p. ap (λ j. column_of rows j) (let q : (k + 1) + m ≡ k + suc m = omega arith in q) ∙ values (suc m) (omega arith)) h.1 in (
      ap (λ x. entry x (entries_from entries)) (h.0.entry ∙ ap (λ vs. entry_of (home_of c) a.domain vs) (sym here))
          ∙ ap (λ xs. entry (entry_of (home_of c) a.domain (column_of rows k)) xs) others.0,
      All-append (IsFound P) (plain_in (home_of c) a.domain (column_of rows k)) (plain_from (column_homes (map home_of cols)) (heading_of schema) (k + 1) rows)
          (subst (λ vs. All (IsFound P) (plain_in (home_of c) a.domain vs)) (sym here) h.0.found) others.1,
    )

-- the table of the columns
pub table_found : (P : Block → Type 0) (n : ℕ) (schema : List Attribute) (entries : List Entry) (cols : List StoredColumn) → AreColumnsOf n schema cols → AreColumnsFound P schema entries cols
    → IsTableFound P (entries_from entries) (table_of_columns n schema cols)
table_found P n schema entries cols whole h =
    let found = columns_found P 0 (rows_of_columns n schema cols) schema entries cols
    (λ m p. ap (λ j. column_of (rows_of_columns n schema cols) j) (let e : 0 + m ≡ m = omega arith in e) ∙ column_of-columns n m schema cols no_column whole.each p) h in
    record { entries = found.0; found = found.1 }

-- the rows of tables in a view column
abbrev views_of : List StoredTable → List Datum
views_of ts = map (λ (t : StoredTable). Datum.relation (relation_of t.rows)) ts

abbrev homes_of : List StoredTable → List (List Home)
homes_of ts = map (λ (t : StoredTable). t.homes) ts

rows_found : (P : Block → Type 0) (schema : List Attribute) (bodies : List Body) (ts : List StoredTable) → AreFormed schema bodies ts → AreTablesFound P bodies ts
    → (bodies_from bodies ≡ bodies_of (row_homes (homes_of ts)) (heading_of schema) (views_of ts)) × All (IsFound P) (plain_rows (row_homes (homes_of ts)) (heading_of schema) (views_of ts))
rows_found P schema [] [] formed found = (refl, All-nil (IsFound P))
rows_found P schema [] (t ∷ ts) formed found = absurd formed
rows_found P schema (b ∷ bodies) [] formed found = absurd formed
rows_found P schema (b ∷ bodies) (t ∷ ts) formed found =
    let h = heading_of schema in
    let heading : heading_of t.schema ≡ h = ap heading_of formed.0.table.same_schema in
    let inside : rows_of (relation_of t.rows) ≡ t.rows = rows_of-relation_of t.rows in
    let others = rows_found P schema bodies ts formed.1 found.1 in
    let own : entries_from b.columns ≡ entries_of (column_homes t.homes) h 0 (rows_of (relation_of t.rows)) =
    found.0.entries ∙ ap (λ g. entries_of (column_homes t.homes) g 0 t.rows) heading ∙ ap (λ rs. entries_of (column_homes t.homes) h 0 rs) (sym inside) in
    let count : b.rows ≡ length (rows_of (relation_of t.rows)) = sym formed.0.count ∙ ap length (sym inside) in (
      ap (λ n. body n (entries_from b.columns) (bodies_from bodies)) count
          ∙ ap (λ es. body (length (rows_of (relation_of t.rows))) es (bodies_from bodies)) own
          ∙ ap (λ bs. body (length (rows_of (relation_of t.rows))) (entries_of (column_homes t.homes) h 0 (rows_of (relation_of t.rows))) bs) others.0,
      All-append (IsFound P) (plain_from (column_homes t.homes) h 0 (rows_of (relation_of t.rows))) (plain_rows (row_homes (homes_of ts)) h (views_of ts))
          (subst (λ rs. All (IsFound P) (plain_from (column_homes t.homes) h 0 rs)) (sym inside)
          (subst (λ g. All (IsFound P) (plain_from (column_homes t.homes) g 0 t.rows)) heading found.0.found)) others.1,
    )

-- the view column of the tables
pub views_found : (P : Block → Type 0) (schema : List Attribute) (bodies : List Body) (ts : List StoredTable) → AreFormed schema bodies ts → AreTablesFound P bodies ts
    → IsColumnFound P (Domain.relation (heading_of schema)) (Entry.tables (bodies_from bodies)) (views ts)
views_found P schema bodies ts formed found =
    let all = rows_found P schema bodies ts formed found in
    record { entry = ap Entry.tables all.0; found = all.1 }

all_formed : (schema : List Attribute) (bodies : List Body) (ts : List StoredTable) → AreFormed schema bodies ts → All (IsTableOf schema) ts
all_formed schema [] [] formed = All-nil (IsTableOf schema)
all_formed schema [] (t ∷ ts) formed = absurd formed
all_formed schema (b ∷ bodies) [] formed = absurd formed
all_formed schema (b ∷ bodies) (t ∷ ts) formed = All-cons (IsTableOf schema) t ts formed.0.table (all_formed schema bodies ts formed.1)

many_formed : (schema : List Attribute) (bodies : List Body) (ts : List StoredTable) → AreFormed schema bodies ts → length ts ≡ count_bodies (bodies_from bodies)
many_formed schema [] [] formed = refl
many_formed schema [] (t ∷ ts) formed = absurd formed
many_formed schema (b ∷ bodies) [] formed = absurd formed
many_formed schema (b ∷ bodies) (t ∷ ts) formed = let e = many_formed schema bodies ts formed.1 in omega (arith, e)

-- it is whole
pub views_whole : (rows : ℕ) (schema : List Attribute) (bodies : List Body) (ts : List StoredTable) → count_bodies (bodies_from bodies) ≡ rows → AreFormed schema bodies ts → IsColumnOf rows (Domain.relation (heading_of schema)) (views ts)
views_whole rows schema bodies ts count formed = record {
  count = many_formed schema bodies ts formed ∙ count;
  whole = subst (λ (s : List Attribute). All (IsTableOf s) ts) (sym (attributes_of-heading_of schema)) (all_formed schema bodies ts formed);
}

-- what is added behind
pub formed_more : (schema : List Attribute) (bodies : List Body) (ts : List StoredTable) (b : Body) (t : StoredTable) → AreFormed schema bodies ts → HasForm schema b.rows t → AreFormed schema (bodies ++ b ∷ []) (ts ++ t ∷ [])
formed_more schema bodies ts b t h one = zip-append (λ (b : Body) (t : StoredTable). HasForm schema b.rows t) bodies (b ∷ []) ts (t ∷ []) h (one, tt)

pub tables_more : (P : Block → Type 0) (bodies : List Body) (ts : List StoredTable) (b : Body) (t : StoredTable) → AreTablesFound P bodies ts → IsTableFound P (entries_from b.columns) t → AreTablesFound P (bodies ++ b ∷ []) (ts ++ t ∷ [])
tables_more P bodies ts b t h one = zip-append (λ (b : Body) (t : StoredTable). IsTableFound P (entries_from b.columns) t) bodies (b ∷ []) ts (t ∷ []) h (one, tt)

pub columns_more : (P : Block → Type 0) (schema : List Attribute) (entries : List Entry) (cols : List StoredColumn) (a : Attribute) (e : Entry) (c : StoredColumn) → AreColumnsFound P schema entries cols → IsColumnFound P a.domain e c
    → AreColumnsFound P (schema ++ a ∷ []) (entries ++ e ∷ []) (cols ++ c ∷ [])
columns_more P [] [] [] a e c h one = (one, tt)
columns_more P [] [] (x ∷ cols) a e c h one = absurd h
columns_more P [] (x ∷ entries) cols a e c h one = absurd h
columns_more P (x ∷ schema) [] cols a e c h one = absurd h
columns_more P (x ∷ schema) (y ∷ entries) [] a e c h one = absurd h
columns_more P (x ∷ schema) (y ∷ entries) (z ∷ cols) a e c h one = (h.0, columns_more P schema entries cols a e c h.1 one)
