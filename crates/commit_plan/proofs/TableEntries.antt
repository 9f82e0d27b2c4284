-- What a directory has of a table is what it has of its columns, one after another.
use Rattle.std.proofs.Common.{◌≡◌, ℕ, zero, suc, ◌+◌, ◌<◌, ◌≤◌, min, List, [], ◌∷◌, ◌++◌, length, get_or, take, map, Option, None, Some, All, refl, ap, sym, subst, ◌∙◌, arith}
use Rattle.std.specs.List.{AllZip, slice_get}
use Rattle.std.proofs.lemmas.List.{get_or-map, length-map, map-append, take_more}
use Rattle.std.proofs.lemmas.Option.{get_or_from_slice_get, slice_get_within}
use Rattle.std.proofs.lemmas.List.Elements.{All-head, All-tail}
use Rattle.mk_value.specs.declared.span.Span.{Span}
use Rattle.mk_value.specs.Heading.{Domain, Heading, Attribute, attributes_of, heading_of}
use Rattle.mk_value.specs.Data.{Datum, relation_of}
use Rattle.mk_value.specs.Tables.{domain_at, number_in}
use Rattle.mk_value.proofs.Headings.{heading_of-attributes_of}
use Rattle.mk_value.proofs.Relations.{rows_of-relation_of}
use Rattle.bit_pack.specs.Width.{least_width}
use Rattle.int_col.specs.Numbers.{Numbers}
use Rattle.bytes_col.specs.Strings.{Strings}
use Rattle.bytes_col.specs.declared.home.BytesHome.{BytesHome}
use Rattle.dir_codec.specs.declared.dir.Memo.{Memo}
use Rattle.dir_codec.specs.Dir.{Body, Entry, ViewEntry, body, bodies_from, entries_from, entry}
use Rattle.tables.specs.Homes.{column_homes, row_homes, column_of}
use Rattle.tables.specs.Shapes.{bytes_in}
use Rattle.tables.specs.Tables.{StoredTable}
use Rattle.tables.specs.Columns.{StoredColumn, integers, texts, views, no_column, home_of, home_of_numbers, home_of_strings, column_values, rows_of_columns, table_of_columns, IsTableOf, IsColumnOf, AreColumnsOf}
use Rattle.tables.proofs.Gathering.{column_of-columns, length-rows_of_columns}
use Rattle.tables.specs.Stored.{stored_of}
use Rattle.tables.specs.declared.cols.Col.{Col}
use Rattle.view_store.specs.Views.{NamedTable, view_names}
use Rattle.recovery.specs.Commits.{bodies_of, entries_of, entry_of, memos_at, strings_entry, view_entry}
use Rattle.recovery.proofs.EntriesOf.{zip-append}
use Rattle.commit_plan.specs.Entries.{IsBodyOf, numbers_entry, stored_entry, table_bodies, table_entries, texts_entry}
use Rattle.commit_plan.proofs.DueBlocks.{numbers_back, strings_back}

numbers_are : (e : Domain) (make : List Datum) (c : Numbers) (home : Option Span) → map number_in make ≡ c.values → entry_of (home_of_numbers home) e make ≡ numbers_entry c home
numbers_are e make c None back = refl
numbers_are e make c (Some block) back = ap (λ zs. Entry.numbers (least_width zs) block) back

texts_are : (e : Domain) (make : List Datum) (c : Strings) (home : Option BytesHome) → map bytes_in make ≡ c.values → entry_of (home_of_strings home) e make ≡ texts_entry c home
texts_are e make c None back = refl
texts_are e make c (Some home) back = ap (λ vs. strings_entry vs home.sizes home.short home.memos) back

bodies_are : (h : Heading) (ts : List StoredTable) → All (IsTableOf (attributes_of h)) ts
    → bodies_of (row_homes (map (λ t. t.homes) ts)) h (map (λ t. Datum.relation (relation_of t.rows)) ts) ≡ table_bodies ts
bodies_are h [] whole = refl
bodies_are h (t ∷ ts) whole =
    let first = All-head (IsTableOf (attributes_of h)) t ts whole in
    let heading : h ≡ heading_of t.schema = sym (ap heading_of first.same_schema ∙ heading_of-attributes_of h) in
    let rest = bodies_of (row_homes (map (λ t. t.homes) ts)) h (map (λ t. Datum.relation (relation_of t.rows)) ts) in
    ap (λ rows. body (length rows) (entries_of (column_homes t.homes) h 0 rows) rest) (rows_of-relation_of t.rows)
    ∙ ap (λ g. body (length t.rows) (entries_of (column_homes t.homes) g 0 t.rows) rest) heading
    ∙ ap (λ bs. body (length t.rows) (table_entries t) bs) (bodies_are h ts (All-tail (IsTableOf (attributes_of h)) t ts whole))

-- a column of the domain
pub entry_is : (n : ℕ) (e : Domain) (c : StoredColumn) → IsColumnOf n e c → entry_of (home_of c) e (column_values e c) ≡ stored_entry c
entry_is n Domain.integer (integers c) h = numbers_are Domain.integer (map Datum.integer c.values) c c.home (numbers_back Datum.integer c.values (λ z. refl))
entry_is n Domain.long (integers c) h = numbers_are Domain.long (map Datum.long c.values) c c.home (numbers_back Datum.long c.values (λ z. refl))
entry_is n Domain.text (integers c) h = absurd h
entry_is n Domain.bytes (integers c) h = absurd h
entry_is n (Domain.relation g) (integers c) h = absurd h
entry_is n Domain.integer (texts c) h = absurd h
entry_is n Domain.long (texts c) h = absurd h
entry_is n Domain.text (texts c) h = texts_are Domain.text (map Datum.text c.values) c c.home (strings_back Datum.text c.values (λ v. refl))
entry_is n Domain.bytes (texts c) h = texts_are Domain.bytes (map Datum.bytes c.values) c c.home (strings_back Datum.bytes c.values (λ v. refl))
entry_is n (Domain.relation g) (texts c) h = absurd h
entry_is n Domain.integer (views ts) h = absurd h
entry_is n Domain.long (views ts) h = absurd h
entry_is n Domain.text (views ts) h = absurd h
entry_is n Domain.bytes (views ts) h = absurd h
entry_is n (Domain.relation g) (views ts) h = ap Entry.tables (bodies_are g ts h.whole)

entries_are : (n k : ℕ) (schema : List Attribute) (cols : List StoredColumn) (rows : List (List Datum)) → AllZip (λ a c. IsColumnOf n a.domain c) schema cols
    → ((m : ℕ) → m < length schema → column_of rows (k + m) ≡ column_values (domain_at schema m) (get_or cols m no_column))
    → entries_of (column_homes (map home_of cols)) (heading_of schema) k rows ≡ entries_from (map stored_entry cols)
entries_are n k [] [] rows h values = refl
entries_are n k [] (c ∷ cols) rows h values = absurd h
entries_are n k (a ∷ schema) [] rows h values = absurd h
entries_are n k (a ∷ schema) (c ∷ cols) rows h values =
    let first : column_of rows k ≡ column_values a.domain c = ap (λ j. column_of rows j) (let e : k ≡ k + 0 = omega arith in e) ∙ values 0 (omega arith) in
    ap (λ vs. entry (entry_of (home_of c) a.domain vs) (entries_of (column_homes (map home_of cols)) (heading_of schema) (k + 1) rows)) first
    ∙ ap (λ x. entry x (entries_of (column_homes (map home_of cols)) (heading_of schema) (k + 1) rows)) (entry_is n a.domain c h.0)
    ∙ ap (λ xs. entry (stored_entry c) xs) (entries_are n (k + 1) schema cols rows h.1
    (λ m p. ap (λ j. column_of rows j) (let e : (k + 1) + m ≡ k + suc m = omega arith in e) ∙ values (suc m) (omega arith)))

-- of a table that columns are
pub body_is : (n : ℕ) (schema : List Attribute) (cols : List StoredColumn) (b : Body) → AreColumnsOf n schema cols → b.rows ≡ n → b.columns ≡ map stored_entry cols → IsBodyOf (table_of_columns n schema cols) b
body_is n schema cols b h rows columns = record {
  rows = rows ∙ sym (length-rows_of_columns n schema cols);
  columns = ap entries_from columns ∙ sym (entries_are n 0 schema cols (rows_of_columns n schema cols) h.each
      (λ m p. ap (λ j. column_of (rows_of_columns n schema cols) j) (let e : 0 + m ≡ m = omega arith in e) ∙ column_of-columns n m schema cols no_column h.each p));
}

-- and of several tables
pub bodies_together : (ts : List StoredTable) (bs : List Body) → AllZip IsBodyOf ts bs → bodies_from bs ≡ table_bodies ts
bodies_together [] [] h = refl
bodies_together [] (b ∷ bs) h = absurd h
bodies_together (t ∷ ts) [] h = absurd h
bodies_together (t ∷ ts) (b ∷ bs) h =
    ap (λ n. body n (entries_from b.columns) (bodies_from bs)) h.0.rows
    ∙ ap (λ es. body (length t.rows) es (bodies_from bs)) h.0.columns
    ∙ ap (λ rest. body (length t.rows) (table_entries t) rest) (bodies_together ts bs h.1)

-- One column more.
pub entries_more : (cols : List StoredColumn) (items : List Col) (k : ℕ) (item : Col) (old new : List Entry) (e : Entry) → map stored_of items ≡ cols → item ≡ get_or items k item → k < length items
    → old ≡ map stored_entry (take k cols) → e ≡ stored_entry (stored_of item) → new ≡ old ++ e ∷ [] → new ≡ map stored_entry (take (k + 1) cols)
entries_more cols items k item old new e same is p done here added =
    let long = ap length same in
    let all = length-map items stored_of in
    let within : k < length cols = omega (arith, p, long, all) in
    let at : get_or cols k (stored_of item) ≡ stored_of item = ap (λ cs. get_or cs k (stored_of item)) (sym same) ∙ get_or-map stored_of items k item (stored_of item) p ∙ ap stored_of (sym is) in
    let more : take (k + 1) cols ≡ take k cols ++ stored_of item ∷ [] = take_more cols k (stored_of item) within ∙ ap (λ c. take k cols ++ c ∷ []) at in
    added ∙ ap (λ es. es ++ e ∷ []) done ∙ ap (λ x. map stored_entry (take k cols) ++ x ∷ []) here
    ∙ sym (ap (map stored_entry) more ∙ map-append stored_entry (take k cols) (stored_of item ∷ []))

-- One table more.
pub bodies_more : (ts : List StoredTable) (k : ℕ) (t u : StoredTable) (old new : List Body) (b : Body) → slice_get ts k ≡ Some t → u ≡ t → AllZip IsBodyOf (take k ts) old → IsBodyOf u b → new ≡ old ++ b ∷ [] → AllZip IsBodyOf (take (k + 1) ts) new
bodies_more ts k t u old new b at is done one added =
    let more : take (k + 1) ts ≡ take k ts ++ t ∷ [] = take_more ts k t (slice_get_within ts k t at) ∙ ap (λ x. take k ts ++ x ∷ []) (get_or_from_slice_get ts k t t at) in
    subst (λ l. AllZip IsBodyOf l new) (sym more) (subst (AllZip IsBodyOf (take k ts ++ t ∷ [])) (sym added)
    (zip-append IsBodyOf (take k ts) (t ∷ []) old (b ∷ []) done (subst (λ x. IsBodyOf x b) is one, tt)))

-- The memos of a column.
pub memos_more : (rows : List ℕ) (spans : List Span) (k : ℕ) (none : Span) → k < min (length rows) (length spans)
    → take (k + 1) (memos_at rows spans) ≡ take k (memos_at rows spans) ++ record { row = get_or rows k 0; span = get_or spans k none } ∷ []
memos_more [] spans k none p = absurd (omega (arith, p))
memos_more (r ∷ rows) [] k none p = absurd (omega (arith, p))
memos_more (r ∷ rows) (s ∷ spans) zero none p = refl
memos_more (r ∷ rows) (s ∷ spans) (suc k) none p =
    ap (λ j. take j (memos_at (r ∷ rows) (s ∷ spans))) (let e : suc k + 1 ≡ suc (k + 1) = omega arith in e)
    ∙ ap (λ ms. (let m : Memo = record { row = r; span = s } in m) ∷ ms) (memos_more rows spans k none (omega (arith, p)))

pub memos_long : (rows : List ℕ) (spans : List Span) → length (memos_at rows spans) ≤ min (length rows) (length spans)
memos_long [] spans = omega arith
memos_long (r ∷ rows) [] = omega arith
memos_long (r ∷ rows) (s ∷ spans) = let e = memos_long rows spans in omega (arith, e)

-- One view more.
pub view_more : (all : List NamedTable) (k : ℕ) (names : List (List ℕ)) (tables : List StoredTable) (name : List ℕ) (table : StoredTable) (old new : List ViewEntry) (e : ViewEntry)
    → names ≡ view_names all → tables ≡ map (λ v. v.table) all → k < length tables → name ≡ get_or names k name → table ≡ get_or tables k table → old ≡ map view_entry (take k all) → e ≡ view_entry (record { name = name; table = table })
    → new ≡ old ++ e ∷ [] → new ≡ map view_entry (take (k + 1) all)
view_more all k names tables name table old new e names_are tables_are p its_name its_table done here added =
    let none : NamedTable = record { name = name; table = table } in
    let long = ap length tables_are ∙ length-map all (λ v. v.table) in
    let within : k < length all = omega (arith, p, long) in
    let one : name ≡ (get_or all k none).name = its_name ∙ ap (λ ns. get_or ns k name) names_are ∙ get_or-map (λ v. v.name) all k none name within in
    let two : table ≡ (get_or all k none).table = its_table ∙ ap (λ ts. get_or ts k table) tables_are ∙ get_or-map (λ v. v.table) all k none table within in
    let view : none ≡ get_or all k none =
    ap (λ n. let v : NamedTable = record { name = n; table = table } in v) one ∙ ap (λ t. let v : NamedTable = record { name = (get_or all k none).name; table = t } in v) two in
    added ∙ ap (λ es. es ++ e ∷ []) done ∙ ap (λ x. map view_entry (take k all) ++ x ∷ []) (here ∙ ap view_entry view)
    ∙ sym (ap (map view_entry) (take_more all k none within) ∙ map-append view_entry (take k all) (get_or all k none ∷ []))
