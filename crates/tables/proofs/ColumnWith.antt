-- Columns that are made: of rows, of a column by an edit, each of its domain with the values and the home that the edit gives.
use Rattle.std.proofs.Common.{◌≡◌, ℕ, ◌<◌, ◌≤◌, ℤ, FitsSigned, w32, w64, List, [], ◌∷◌, length, get_or, set, map, All, pos, Option, None, Some, refl, ap, sym, subst, ◌∙◌, arith}
use Rattle.std.proofs.lemmas.List.{length-map, map-set}
use Rattle.std.proofs.lemmas.List.Elements.{All-head, All-tail, All-set}
use Rattle.mk_value.specs.declared.span.Span.{Span}
use Rattle.mk_value.specs.Limits.{max_bytes}
use Rattle.mk_value.specs.Heading.{Domain, Heading, Attribute, attributes_of, heading_of}
use Rattle.mk_value.specs.Data.{Datum, integer, Relation, rows_of, relation_of, IsOf, AreRowsOf}
use Rattle.mk_value.specs.Tables.{number_in}
use Rattle.mk_value.proofs.Relations.{rows_of-relation_of, IsOf-relation}
use Rattle.mk_value.proofs.Converting.{relation_of-rows_of}
use Rattle.mk_value.proofs.Headings.{attributes_of-heading_of, heading_of-attributes_of}
use Rattle.int_col.specs.Numbers.{Numbers}
use Rattle.bytes_col.specs.declared.home.BytesHome.{BytesHome}
use Rattle.bytes_col.specs.Strings.{Strings}
use Rattle.tables.specs.Homes.{Home, no_home, tables, row_homes, column_of, rows_in, empty_home, empty_homes_from, empty_homes_in}
use Rattle.tables.specs.Rows.{inserted, removed, home_inserted, home_removed}
use Rattle.tables.specs.Shapes.{bytes_in}
use Rattle.tables.specs.Tables.{StoredTable, home_with, table_without_homes}
use Rattle.tables.specs.Columns.{StoredColumn, integers, texts, views, home_of, home_of_numbers, home_of_strings, column_values, HasBlocks, IsTextValue, IsTableOf, IsColumnOf, IsColumnWith}
use Rattle.tables.specs.Cells.{HasNumber, HasString, HasView, with_number, with_string, with_view}
use Rattle.tables.specs.Read.{IsIntegers, IsTexts, AreViews}
use Rattle.tables.specs.Build.{AreCells, IsTableOfRows}
use Rattle.tables.proofs.Lists.{map-inserted, map-removed, each_of-row_homes}
use Rattle.tables.proofs.EditedTables.{empty-shape}
use Rattle.tables.proofs.Gathering.{All-map, map-map, length-column_values}
use Rattle.tables.proofs.Rebuilding.{All-inserted, All-removed}

abbrev view_of : StoredTable → Datum
view_of t = Datum.relation (relation_of t.rows)

-- A column by its parts.
pub with_integers : (c : Numbers) (values : List Datum) (home : Home) → map Datum.integer c.values ≡ values → All (λ z. FitsSigned w32 z) c.values → home_of_numbers c.home ≡ home → IsColumnWith Domain.integer values home (integers c)
with_integers c values home e fit at = record { whole = record { count = sym (length-map c.values Datum.integer) ∙ ap length e; fit = fit }; holds = e; home_is = at }

pub with_longs : (c : Numbers) (values : List Datum) (home : Home) → map Datum.long c.values ≡ values → All (λ z. FitsSigned w64 z) c.values → home_of_numbers c.home ≡ home → IsColumnWith Domain.long values home (integers c)
with_longs c values home e fit at = record { whole = record { count = sym (length-map c.values Datum.long) ∙ ap length e; fit = fit }; holds = e; home_is = at }

pub with_texts : (c : Strings) (values : List Datum) (home : Home) → map Datum.text c.values ≡ values → All IsTextValue c.values → c.home ≡ None → no_home ≡ home → IsColumnWith Domain.text values home (texts c)
with_texts c values home e fit none at = record {
  whole = record { count = sym (length-map c.values Datum.text) ∙ ap length e; fit = fit; home = subst (λ h. HasBlocks h c.values) (sym none) tt };
  holds = e;
  home_is = ap home_of_strings none ∙ at;
}

pub with_bytes : (c : Strings) (values : List Datum) (home : Home) → map Datum.bytes c.values ≡ values → All (λ content. length content ≤ max_bytes) c.values → c.home ≡ None → no_home ≡ home → IsColumnWith Domain.bytes values home (texts c)
with_bytes c values home e fit none at = record {
  whole = record { count = sym (length-map c.values Datum.bytes) ∙ ap length e; fit = fit; home = subst (λ h. HasBlocks h c.values) (sym none) tt };
  holds = e;
  home_is = ap home_of_strings none ∙ at;
}

pub with_views : (h : Heading) (ts : List StoredTable) (values : List Datum) (home : Home) → map (λ (t : StoredTable). Datum.relation (relation_of t.rows)) ts ≡ values → All (IsTableOf (attributes_of h)) ts
    → tables (row_homes (map (λ (t : StoredTable). t.homes) ts)) ≡ home → IsColumnWith (Domain.relation h) values home (views ts)
with_views h ts values home e whole at = record { whole = record { count = sym (length-map ts view_of) ∙ ap length e; whole = whole }; holds = e; home_is = at }

-- A plain column has no home after an edit.
numbers-inserted : (at n : ℕ) (e : Domain) (d : Datum) (o : Option Span) → home_inserted at n e d (home_of_numbers o) ≡ no_home
numbers-inserted at n e d None = refl
numbers-inserted at n e d (Some s) = refl

strings-inserted : (at n : ℕ) (e : Domain) (d : Datum) (o : Option BytesHome) → home_inserted at n e d (home_of_strings o) ≡ no_home
strings-inserted at n e d None = refl
strings-inserted at n e d (Some s) = refl

numbers-removed : (at n : ℕ) (o : Option Span) → home_removed at n (home_of_numbers o) ≡ no_home
numbers-removed at n None = refl
numbers-removed at n (Some s) = refl

strings-removed : (at n : ℕ) (o : Option BytesHome) → home_removed at n (home_of_strings o) ≡ no_home
strings-removed at n None = refl
strings-removed at n (Some s) = refl

pub numbers-with : (i : ℕ) (hs : List Home) (o : Option Span) → home_with i hs (home_of_numbers o) ≡ no_home
numbers-with i hs None = refl
numbers-with i hs (Some s) = refl

pub strings-with : (i : ℕ) (hs : List Home) (o : Option BytesHome) → home_with i hs (home_of_strings o) ≡ no_home
strings-with i hs None = refl
strings-with i hs (Some s) = refl

-- Values put in.
pub integers_inserted : (n at count : ℕ) (col : StoredColumn) (old new : Numbers) (z : ℤ) → IsColumnOf n Domain.integer col → col ≡ integers old → new.values ≡ inserted at count z old.values → new.home ≡ None → FitsSigned w32 z
    → IsColumnWith Domain.integer (inserted at count (Datum.integer z) (column_values Domain.integer col)) (home_inserted at count Domain.integer (Datum.integer z) (home_of col)) (integers new)
integers_inserted n at count col old new z whole e values none fits =
    let kept : IsColumnOf n Domain.integer (integers old) = subst (λ x. IsColumnOf n Domain.integer x) e whole in
    subst (λ x. IsColumnWith Domain.integer (inserted at count (Datum.integer z) (column_values Domain.integer x)) (home_inserted at count Domain.integer (Datum.integer z) (home_of x)) (integers new)) (sym e)
    (with_integers new (inserted at count (Datum.integer z) (map Datum.integer old.values)) (home_inserted at count Domain.integer (Datum.integer z) (home_of_numbers old.home))
    (ap (λ zs. map Datum.integer zs) values ∙ map-inserted Datum.integer at count z old.values)
    (subst (λ zs. All (λ y. FitsSigned w32 y) zs) (sym values) (All-inserted (λ y. FitsSigned w32 y) at count z old.values kept.fit fits))
    (ap home_of_numbers none ∙ sym (numbers-inserted at count Domain.integer (Datum.integer z) old.home)))

pub longs_inserted : (n at count : ℕ) (col : StoredColumn) (old new : Numbers) (z : ℤ) → IsColumnOf n Domain.long col → col ≡ integers old → new.values ≡ inserted at count z old.values → new.home ≡ None → FitsSigned w64 z
    → IsColumnWith Domain.long (inserted at count (Datum.long z) (column_values Domain.long col)) (home_inserted at count Domain.long (Datum.long z) (home_of col)) (integers new)
longs_inserted n at count col old new z whole e values none fits =
    let kept : IsColumnOf n Domain.long (integers old) = subst (λ x. IsColumnOf n Domain.long x) e whole in
    subst (λ x. IsColumnWith Domain.long (inserted at count (Datum.long z) (column_values Domain.long x)) (home_inserted at count Domain.long (Datum.long z) (home_of x)) (integers new)) (sym e)
    (with_longs new (inserted at count (Datum.long z) (map Datum.long old.values)) (home_inserted at count Domain.long (Datum.long z) (home_of_numbers old.home))
    (ap (λ zs. map Datum.long zs) values ∙ map-inserted Datum.long at count z old.values)
    (subst (λ zs. All (λ y. FitsSigned w64 y) zs) (sym values) (All-inserted (λ y. FitsSigned w64 y) at count z old.values kept.fit fits))
    (ap home_of_numbers none ∙ sym (numbers-inserted at count Domain.long (Datum.long z) old.home)))

pub texts_inserted : (n at count : ℕ) (col : StoredColumn) (old new : Strings) (v : List ℕ) → IsColumnOf n Domain.text col → col ≡ texts old → new.values ≡ inserted at count v old.values → new.home ≡ None → IsOf (Datum.text v) Domain.text
    → IsColumnWith Domain.text (inserted at count (Datum.text v) (column_values Domain.text col)) (home_inserted at count Domain.text (Datum.text v) (home_of col)) (texts new)
texts_inserted n at count col old new v whole e values none fits =
    let kept : IsColumnOf n Domain.text (texts old) = subst (λ x. IsColumnOf n Domain.text x) e whole in
    subst (λ x. IsColumnWith Domain.text (inserted at count (Datum.text v) (column_values Domain.text x)) (home_inserted at count Domain.text (Datum.text v) (home_of x)) (texts new)) (sym e)
    (with_texts new (inserted at count (Datum.text v) (map Datum.text old.values)) (home_inserted at count Domain.text (Datum.text v) (home_of_strings old.home))
    (ap (λ zs. map Datum.text zs) values ∙ map-inserted Datum.text at count v old.values)
    (subst (All IsTextValue) (sym values) (All-inserted IsTextValue at count v old.values kept.fit (record { is_text = fits.0; short = fits.1 })))
    none (sym (strings-inserted at count Domain.text (Datum.text v) old.home)))

pub bytes_inserted : (n at count : ℕ) (col : StoredColumn) (old new : Strings) (v : List ℕ) → IsColumnOf n Domain.bytes col → col ≡ texts old → new.values ≡ inserted at count v old.values → new.home ≡ None → IsOf (Datum.bytes v) Domain.bytes
    → IsColumnWith Domain.bytes (inserted at count (Datum.bytes v) (column_values Domain.bytes col)) (home_inserted at count Domain.bytes (Datum.bytes v) (home_of col)) (texts new)
bytes_inserted n at count col old new v whole e values none fits =
    let kept : IsColumnOf n Domain.bytes (texts old) = subst (λ x. IsColumnOf n Domain.bytes x) e whole in
    subst (λ x. IsColumnWith Domain.bytes (inserted at count (Datum.bytes v) (column_values Domain.bytes x)) (home_inserted at count Domain.bytes (Datum.bytes v) (home_of x)) (texts new)) (sym e)
    (with_bytes new (inserted at count (Datum.bytes v) (map Datum.bytes old.values)) (home_inserted at count Domain.bytes (Datum.bytes v) (home_of_strings old.home))
    (ap (λ zs. map Datum.bytes zs) values ∙ map-inserted Datum.bytes at count v old.values)
    (subst (All (λ content. length content ≤ max_bytes)) (sym values) (All-inserted (λ content. length content ≤ max_bytes) at count v old.values kept.fit fits))
    none (sym (strings-inserted at count Domain.bytes (Datum.bytes v) old.home)))

-- a table of rows of a view is whole
pub table_of_rows : (h : Heading) (rows : List (List Datum)) (t : StoredTable) → IsTableOfRows (Domain.relation h) rows t → AreRowsOf rows (attributes_of h) → IsTableOf (attributes_of h) t
table_of_rows h rows t e whole =
    subst (IsTableOf (attributes_of h)) (sym e) (record { same_schema = refl; rows = whole; homes = empty-shape (attributes_of h) rows })

view_rows : (h : Heading) (rows : List (List Datum)) → IsOf (Datum.relation (relation_of rows)) (Domain.relation h) → AreRowsOf rows (attributes_of h)
view_rows h rows fits =
    (IsOf-relation rows (attributes_of h)).1 (subst (λ g. IsOf (Datum.relation (relation_of rows)) (Domain.relation g)) (sym (heading_of-attributes_of h)) fits)

homes_of_rows : (h : Heading) (rows : List (List Datum)) (t : StoredTable) → IsTableOfRows (Domain.relation h) rows t → t.homes ≡ empty_homes_in (Domain.relation h) (Datum.relation (relation_of rows))
homes_of_rows h rows t e =
    ap (λ (u : StoredTable). u.homes) e ∙ ap (λ g. empty_homes_from g 0 rows) (heading_of-attributes_of h) ∙ ap (λ rs. empty_homes_from h 0 rs) (sym (rows_of-relation_of rows))

view_of_rows : (h : Heading) (rows : List (List Datum)) (t : StoredTable) → IsTableOfRows (Domain.relation h) rows t → Datum.relation (relation_of t.rows) ≡ Datum.relation (relation_of rows)
view_of_rows h rows t e = ap (λ (u : StoredTable). Datum.relation (relation_of u.rows)) e

pub views_inserted : (e : Domain) (n at count : ℕ) (col : StoredColumn) (old new : List StoredTable) (rows : List (List Datum)) (t : StoredTable) → IsColumnOf n e col → col ≡ views old → new ≡ inserted at count t old → IsTableOfRows e rows t
    → IsOf (Datum.relation (relation_of rows)) e
    → IsColumnWith e (inserted at count (Datum.relation (relation_of rows)) (column_values e col)) (home_inserted at count e (Datum.relation (relation_of rows)) (home_of col)) (views new)
views_inserted Domain.integer n at count col old new rows t whole e values made fits = absurd fits
views_inserted Domain.long n at count col old new rows t whole e values made fits = absurd fits
views_inserted Domain.text n at count col old new rows t whole e values made fits = absurd fits
views_inserted Domain.bytes n at count col old new rows t whole e values made fits = absurd fits
views_inserted (Domain.relation h) n at count col old new rows t whole e values made fits =
    let d = Datum.relation (relation_of rows) in
    let homes = λ (u : StoredTable). u.homes in
    let kept : IsColumnOf n (Domain.relation h) (views old) = subst (λ x. IsColumnOf n (Domain.relation h) x) e whole in
    subst (λ x. IsColumnWith (Domain.relation h) (inserted at count d (column_values (Domain.relation h) x)) (home_inserted at count (Domain.relation h) d (home_of x)) (views new)) (sym e)
    (with_views h new (inserted at count d (map view_of old)) (home_inserted at count (Domain.relation h) d (home_of (views old)))
    (ap (λ us. map view_of us) values ∙ map-inserted view_of at count t old ∙ ap (λ x. inserted at count x (map view_of old)) (view_of_rows h rows t made))
    (subst (All (IsTableOf (attributes_of h))) (sym values) (All-inserted (IsTableOf (attributes_of h)) at count t old kept.whole (table_of_rows h rows t made (view_rows h rows fits))))
    (ap (λ us. tables (row_homes (map homes us))) values
    ∙ ap (λ hs. tables (row_homes hs)) (map-inserted homes at count t old ∙ ap (λ x. inserted at count x (map homes old)) (homes_of_rows h rows t made)
    ∙ ap (λ hs. inserted at count (empty_homes_in (Domain.relation h) d) hs) (sym (each_of-row_homes (map homes old))))))

-- Values removed.
pub integers_removed : (n at count : ℕ) (col : StoredColumn) (old new : Numbers) → IsColumnOf n Domain.integer col → col ≡ integers old → new.values ≡ removed at count old.values → new.home ≡ None
    → IsColumnWith Domain.integer (removed at count (column_values Domain.integer col)) (home_removed at count (home_of col)) (integers new)
integers_removed n at count col old new whole e values none =
    let kept : IsColumnOf n Domain.integer (integers old) = subst (λ x. IsColumnOf n Domain.integer x) e whole in
    subst (λ x. IsColumnWith Domain.integer (removed at count (column_values Domain.integer x)) (home_removed at count (home_of x)) (integers new)) (sym e)
    (with_integers new (removed at count (map Datum.integer old.values)) (home_removed at count (home_of_numbers old.home))
    (ap (λ zs. map Datum.integer zs) values ∙ map-removed Datum.integer at count old.values)
    (subst (λ zs. All (λ y. FitsSigned w32 y) zs) (sym values) (All-removed (λ y. FitsSigned w32 y) at count old.values kept.fit))
    (ap home_of_numbers none ∙ sym (numbers-removed at count old.home)))

pub longs_removed : (n at count : ℕ) (col : StoredColumn) (old new : Numbers) → IsColumnOf n Domain.long col → col ≡ integers old → new.values ≡ removed at count old.values → new.home ≡ None
    → IsColumnWith Domain.long (removed at count (column_values Domain.long col)) (home_removed at count (home_of col)) (integers new)
longs_removed n at count col old new whole e values none =
    let kept : IsColumnOf n Domain.long (integers old) = subst (λ x. IsColumnOf n Domain.long x) e whole in
    subst (λ x. IsColumnWith Domain.long (removed at count (column_values Domain.long x)) (home_removed at count (home_of x)) (integers new)) (sym e)
    (with_longs new (removed at count (map Datum.long old.values)) (home_removed at count (home_of_numbers old.home))
    (ap (λ zs. map Datum.long zs) values ∙ map-removed Datum.long at count old.values)
    (subst (λ zs. All (λ y. FitsSigned w64 y) zs) (sym values) (All-removed (λ y. FitsSigned w64 y) at count old.values kept.fit))
    (ap home_of_numbers none ∙ sym (numbers-removed at count old.home)))

pub texts_removed : (n at count : ℕ) (col : StoredColumn) (old new : Strings) → IsColumnOf n Domain.text col → col ≡ texts old → new.values ≡ removed at count old.values → new.home ≡ None
    → IsColumnWith Domain.text (removed at count (column_values Domain.text col)) (home_removed at count (home_of col)) (texts new)
texts_removed n at count col old new whole e values none =
    let kept : IsColumnOf n Domain.text (texts old) = subst (λ x. IsColumnOf n Domain.text x) e whole in
    subst (λ x. IsColumnWith Domain.text (removed at count (column_values Domain.text x)) (home_removed at count (home_of x)) (texts new)) (sym e)
    (with_texts new (removed at count (map Datum.text old.values)) (home_removed at count (home_of_strings old.home))
    (ap (λ zs. map Datum.text zs) values ∙ map-removed Datum.text at count old.values)
    (subst (All IsTextValue) (sym values) (All-removed IsTextValue at count old.values kept.fit))
    none (sym (strings-removed at count old.home)))

pub bytes_removed : (n at count : ℕ) (col : StoredColumn) (old new : Strings) → IsColumnOf n Domain.bytes col → col ≡ texts old → new.values ≡ removed at count old.values → new.home ≡ None
    → IsColumnWith Domain.bytes (removed at count (column_values Domain.bytes col)) (home_removed at count (home_of col)) (texts new)
bytes_removed n at count col old new whole e values none =
    let kept : IsColumnOf n Domain.bytes (texts old) = subst (λ x. IsColumnOf n Domain.bytes x) e whole in
    subst (λ x. IsColumnWith Domain.bytes (removed at count (column_values Domain.bytes x)) (home_removed at count (home_of x)) (texts new)) (sym e)
    (with_bytes new (removed at count (map Datum.bytes old.values)) (home_removed at count (home_of_strings old.home))
    (ap (λ zs. map Datum.bytes zs) values ∙ map-removed Datum.bytes at count old.values)
    (subst (All (λ content. length content ≤ max_bytes)) (sym values) (All-removed (λ content. length content ≤ max_bytes) at count old.values kept.fit))
    none (sym (strings-removed at count old.home)))

pub views_removed : (h : Heading) (n at count : ℕ) (col : StoredColumn) (old new : List StoredTable) → IsColumnOf n (Domain.relation h) col → col ≡ views old → new ≡ removed at count old
    → IsColumnWith (Domain.relation h) (removed at count (column_values (Domain.relation h) col)) (home_removed at count (home_of col)) (views new)
views_removed h n at count col old new whole e values =
    let homes = λ (u : StoredTable). u.homes in
    let kept : IsColumnOf n (Domain.relation h) (views old) = subst (λ x. IsColumnOf n (Domain.relation h) x) e whole in
    subst (λ x. IsColumnWith (Domain.relation h) (removed at count (column_values (Domain.relation h) x)) (home_removed at count (home_of x)) (views new)) (sym e)
    (with_views h new (removed at count (map view_of old)) (home_removed at count (home_of (views old)))
    (ap (λ us. map view_of us) values ∙ map-removed view_of at count old)
    (subst (All (IsTableOf (attributes_of h))) (sym values) (All-removed (IsTableOf (attributes_of h)) at count old kept.whole))
    (ap (λ us. tables (row_homes (map homes us))) values
    ∙ ap (λ hs. tables (row_homes hs)) (map-removed homes at count old ∙ ap (λ hs. removed at count hs) (sym (each_of-row_homes (map homes old))))))

-- Columns of rows.
integer_back : (d : Datum) → IsOf d Domain.integer → (Datum.integer (number_in d) ≡ d) × FitsSigned w32 (number_in d)
integer_back (integer z) h = (refl, h)
integer_back (Datum.long z) h = absurd h
integer_back (Datum.text v) h = absurd h
integer_back (Datum.bytes v) h = absurd h
integer_back (Datum.relation r) h = absurd h

long_back : (d : Datum) → IsOf d Domain.long → (Datum.long (number_in d) ≡ d) × FitsSigned w64 (number_in d)
long_back (integer z) h = absurd h
long_back (Datum.long z) h = (refl, h)
long_back (Datum.text v) h = absurd h
long_back (Datum.bytes v) h = absurd h
long_back (Datum.relation r) h = absurd h

text_back : (d : Datum) → IsOf d Domain.text → (Datum.text (bytes_in d) ≡ d) × IsTextValue (bytes_in d)
text_back (integer z) h = absurd h
text_back (Datum.long z) h = absurd h
text_back (Datum.text v) h = (refl, record { is_text = h.0; short = h.1 })
text_back (Datum.bytes v) h = absurd h
text_back (Datum.relation r) h = absurd h

bytes_back : (d : Datum) → IsOf d Domain.bytes → (Datum.bytes (bytes_in d) ≡ d) × (length (bytes_in d) ≤ max_bytes)
bytes_back (integer z) h = absurd h
bytes_back (Datum.long z) h = absurd h
bytes_back (Datum.text v) h = absurd h
bytes_back (Datum.bytes v) h = (refl, h)
bytes_back (Datum.relation r) h = absurd h

pub record IsViewBack (h : Heading) (d : Datum) : Type 0 where
  pub same : Datum.relation (relation_of (rows_in d)) ≡ d
  pub rows : AreRowsOf (rows_in d) (attributes_of h)

view_back : (h : Heading) (d : Datum) → IsOf d (Domain.relation h) → IsViewBack h d
view_back h (integer z) fits = absurd fits
view_back h (Datum.long z) fits = absurd fits
view_back h (Datum.text v) fits = absurd fits
view_back h (Datum.bytes v) fits = absurd fits
view_back h (Datum.relation r) fits =
    let back = relation_of-rows_of r in
    record {
      same = ap Datum.relation back;
      rows = view_rows h (rows_of r) (subst (λ x. IsOf (Datum.relation x) (Domain.relation h)) (sym back) fits);
    }

-- values that are taken out of data and put back, one by one
map_back : {X : Type 0} (out : Datum → X) (back : X → Datum) (ds : List Datum) → All (λ d. back (out d) ≡ d) ds → map back (map out ds) ≡ ds
map_back out back [] h = refl
map_back out back (d ∷ ds) h =
    ap (λ x. x ∷ map back (map out ds)) (All-head (λ x. back (out x) ≡ x) d ds h) ∙ ap (λ xs. d ∷ xs) (map_back out back ds (All-tail (λ x. back (out x) ≡ x) d ds h))

All-then : {X : Type 0} {P Q : X → Type 0} (xs : List X) → ((x : X) → P x → Q x) → All P xs → All Q xs
All-then xs f h = λ k d p. f (get_or xs k d) (h k d p)

pub cells_fit : (rows : List (List Datum)) (at : ℕ) (e : Domain) → AreCells rows at e → All (λ d. IsOf d e) (column_of rows at)
cells_fit rows at e h = All-map (λ (row : List Datum). get_or row at (integer (pos 0))) (λ d. IsOf d e) rows h.fit

pub integers_made : (rows : List (List Datum)) (at : ℕ) (c : Numbers) → AreCells rows at Domain.integer → c.values ≡ map number_in (column_of rows at) → c.home ≡ None
    → IsColumnWith Domain.integer (column_of rows at) (empty_home Domain.integer (column_of rows at)) (integers c)
integers_made rows at c h values none =
    let ds = column_of rows at in
    let fit = cells_fit rows at Domain.integer h in
    with_integers c ds no_home
    (ap (λ zs. map Datum.integer zs) values ∙ map_back number_in Datum.integer ds (λ k d p. (integer_back (get_or ds k d) (fit k d p)).0))
    (subst (λ zs. All (λ y. FitsSigned w32 y) zs) (sym values) (All-map number_in (λ y. FitsSigned w32 y) ds (λ k d p. (integer_back (get_or ds k d) (fit k d p)).1)))
    (ap home_of_numbers none)

pub longs_made : (rows : List (List Datum)) (at : ℕ) (c : Numbers) → AreCells rows at Domain.long → c.values ≡ map number_in (column_of rows at) → c.home ≡ None
    → IsColumnWith Domain.long (column_of rows at) (empty_home Domain.long (column_of rows at)) (integers c)
longs_made rows at c h values none =
    let ds = column_of rows at in
    let fit = cells_fit rows at Domain.long h in
    with_longs c ds no_home
    (ap (λ zs. map Datum.long zs) values ∙ map_back number_in Datum.long ds (λ k d p. (long_back (get_or ds k d) (fit k d p)).0))
    (subst (λ zs. All (λ y. FitsSigned w64 y) zs) (sym values) (All-map number_in (λ y. FitsSigned w64 y) ds (λ k d p. (long_back (get_or ds k d) (fit k d p)).1)))
    (ap home_of_numbers none)

pub texts_made : (rows : List (List Datum)) (at : ℕ) (c : Strings) → AreCells rows at Domain.text → c.values ≡ map bytes_in (column_of rows at) → c.home ≡ None
    → IsColumnWith Domain.text (column_of rows at) (empty_home Domain.text (column_of rows at)) (texts c)
texts_made rows at c h values none =
    let ds = column_of rows at in
    let fit = cells_fit rows at Domain.text h in
    with_texts c ds no_home
    (ap (λ zs. map Datum.text zs) values ∙ map_back bytes_in Datum.text ds (λ k d p. (text_back (get_or ds k d) (fit k d p)).0))
    (subst (All IsTextValue) (sym values) (All-map bytes_in IsTextValue ds (λ k d p. (text_back (get_or ds k d) (fit k d p)).1)))
    none refl

pub bytes_made : (rows : List (List Datum)) (at : ℕ) (c : Strings) → AreCells rows at Domain.bytes → c.values ≡ map bytes_in (column_of rows at) → c.home ≡ None
    → IsColumnWith Domain.bytes (column_of rows at) (empty_home Domain.bytes (column_of rows at)) (texts c)
bytes_made rows at c h values none =
    let ds = column_of rows at in
    let fit = cells_fit rows at Domain.bytes h in
    with_bytes c ds no_home
    (ap (λ zs. map Datum.bytes zs) values ∙ map_back bytes_in Datum.bytes ds (λ k d p. (bytes_back (get_or ds k d) (fit k d p)).0))
    (subst (All (λ content. length content ≤ max_bytes)) (sym values) (All-map bytes_in (λ content. length content ≤ max_bytes) ds (λ k d p. (bytes_back (get_or ds k d) (fit k d p)).1)))
    none refl

pub views_made : (rows : List (List Datum)) (at : ℕ) (schema : List Attribute) (ts : List StoredTable) → AreCells rows at (Domain.relation (heading_of schema)) → ts ≡ map (λ d. table_without_homes schema (rows_in d)) (column_of rows at)
    → IsColumnWith (Domain.relation (heading_of schema)) (column_of rows at) (empty_home (Domain.relation (heading_of schema)) (column_of rows at)) (views ts)
views_made rows at schema ts h made =
    let ds = column_of rows at in
    let hd = heading_of schema in
    let make = λ (d : Datum). table_without_homes schema (rows_in d) in
    let fit = cells_fit rows at (Domain.relation hd) h in
    with_views hd ts ds (empty_home (Domain.relation hd) ds)
    (ap (λ us. map view_of us) made ∙ map-map make view_of ds ∙ sym (map-map rows_in (λ rs. Datum.relation (relation_of rs)) ds)
    ∙ map_back rows_in (λ rs. Datum.relation (relation_of rs)) ds (λ k d p. (view_back hd (get_or ds k d) (fit k d p)).same))
    (subst (All (IsTableOf (attributes_of hd))) (sym made)
    (All-map make (IsTableOf (attributes_of hd)) ds (λ k d p.
    let back = view_back hd (get_or ds k d) (fit k d p) in
    record {
      same_schema = sym (attributes_of-heading_of schema);
      rows = subst (λ s. AreRowsOf (rows_in (get_or ds k d)) s) (attributes_of-heading_of schema) back.rows;
      homes = empty-shape schema (rows_in (get_or ds k d));
    })))
    (ap (λ us. tables (row_homes (map (λ (u : StoredTable). u.homes) us))) made ∙ ap (λ hs. tables (row_homes hs)) (map-map make (λ (u : StoredTable). u.homes) ds))

-- A value that fits a column tells what is kept there.
pub keeps_integer : (e : Domain) (n : ℕ) (z : ℤ) (col : StoredColumn) → IsOf (Datum.integer z) e → IsColumnOf n e col → IsIntegers col
keeps_integer Domain.integer n z (integers c) fits h = tt
keeps_integer Domain.integer n z (texts c) fits h = h
keeps_integer Domain.integer n z (views c) fits h = h
keeps_integer Domain.long n z col fits h = absurd fits
keeps_integer Domain.text n z col fits h = absurd fits
keeps_integer Domain.bytes n z col fits h = absurd fits
keeps_integer (Domain.relation g) n z col fits h = absurd fits

pub keeps_long : (e : Domain) (n : ℕ) (z : ℤ) (col : StoredColumn) → IsOf (Datum.long z) e → IsColumnOf n e col → IsIntegers col
keeps_long Domain.long n z (integers c) fits h = tt
keeps_long Domain.long n z (texts c) fits h = h
keeps_long Domain.long n z (views c) fits h = h
keeps_long Domain.integer n z col fits h = absurd fits
keeps_long Domain.text n z col fits h = absurd fits
keeps_long Domain.bytes n z col fits h = absurd fits
keeps_long (Domain.relation g) n z col fits h = absurd fits

pub keeps_text : (e : Domain) (n : ℕ) (v : List ℕ) (col : StoredColumn) → IsOf (Datum.text v) e → IsColumnOf n e col → IsTexts col
keeps_text Domain.text n v (integers c) fits h = h
keeps_text Domain.text n v (texts c) fits h = tt
keeps_text Domain.text n v (views c) fits h = h
keeps_text Domain.integer n v col fits h = absurd fits
keeps_text Domain.long n v col fits h = absurd fits
keeps_text Domain.bytes n v col fits h = absurd fits
keeps_text (Domain.relation g) n v col fits h = absurd fits

pub keeps_bytes : (e : Domain) (n : ℕ) (v : List ℕ) (col : StoredColumn) → IsOf (Datum.bytes v) e → IsColumnOf n e col → IsTexts col
keeps_bytes Domain.bytes n v (integers c) fits h = h
keeps_bytes Domain.bytes n v (texts c) fits h = tt
keeps_bytes Domain.bytes n v (views c) fits h = h
keeps_bytes Domain.integer n v col fits h = absurd fits
keeps_bytes Domain.long n v col fits h = absurd fits
keeps_bytes Domain.text n v col fits h = absurd fits
keeps_bytes (Domain.relation g) n v col fits h = absurd fits

pub keeps_views : (e : Domain) (n : ℕ) (r : Relation) (col : StoredColumn) → IsOf (Datum.relation r) e → IsColumnOf n e col → AreViews col
keeps_views (Domain.relation g) n r (integers c) fits h = h
keeps_views (Domain.relation g) n r (texts c) fits h = h
keeps_views (Domain.relation g) n r (views c) fits h = tt
keeps_views Domain.integer n r col fits h = absurd fits
keeps_views Domain.long n r col fits h = absurd fits
keeps_views Domain.text n r col fits h = absurd fits
keeps_views Domain.bytes n r col fits h = absurd fits

pub integers_inserted_in : (e : Domain) (n at count : ℕ) (col : StoredColumn) (old new : Numbers) (z : ℤ) → IsColumnOf n e col → col ≡ integers old → new.values ≡ inserted at count z old.values → new.home ≡ None → IsOf (Datum.integer z) e
    → IsColumnWith e (inserted at count (Datum.integer z) (column_values e col)) (home_inserted at count e (Datum.integer z) (home_of col)) (integers new)
integers_inserted_in Domain.integer n at count col old new z whole e values none fits = integers_inserted n at count col old new z whole e values none fits
integers_inserted_in Domain.long n at count col old new z whole e values none fits = absurd fits
integers_inserted_in Domain.text n at count col old new z whole e values none fits = absurd fits
integers_inserted_in Domain.bytes n at count col old new z whole e values none fits = absurd fits
integers_inserted_in (Domain.relation g) n at count col old new z whole e values none fits = absurd fits

pub longs_inserted_in : (e : Domain) (n at count : ℕ) (col : StoredColumn) (old new : Numbers) (z : ℤ) → IsColumnOf n e col → col ≡ integers old → new.values ≡ inserted at count z old.values → new.home ≡ None → IsOf (Datum.long z) e
    → IsColumnWith e (inserted at count (Datum.long z) (column_values e col)) (home_inserted at count e (Datum.long z) (home_of col)) (integers new)
longs_inserted_in Domain.long n at count col old new z whole e values none fits = longs_inserted n at count col old new z whole e values none fits
longs_inserted_in Domain.integer n at count col old new z whole e values none fits = absurd fits
longs_inserted_in Domain.text n at count col old new z whole e values none fits = absurd fits
longs_inserted_in Domain.bytes n at count col old new z whole e values none fits = absurd fits
longs_inserted_in (Domain.relation g) n at count col old new z whole e values none fits = absurd fits

pub texts_inserted_in : (e : Domain) (n at count : ℕ) (col : StoredColumn) (old new : Strings) (v : List ℕ) → IsColumnOf n e col → col ≡ texts old → new.values ≡ inserted at count v old.values → new.home ≡ None → IsOf (Datum.text v) e
    → IsColumnWith e (inserted at count (Datum.text v) (column_values e col)) (home_inserted at count e (Datum.text v) (home_of col)) (texts new)
texts_inserted_in Domain.text n at count col old new v whole e values none fits = texts_inserted n at count col old new v whole e values none fits
texts_inserted_in Domain.integer n at count col old new v whole e values none fits = absurd fits
texts_inserted_in Domain.long n at count col old new v whole e values none fits = absurd fits
texts_inserted_in Domain.bytes n at count col old new v whole e values none fits = absurd fits
texts_inserted_in (Domain.relation g) n at count col old new v whole e values none fits = absurd fits

pub bytes_inserted_in : (e : Domain) (n at count : ℕ) (col : StoredColumn) (old new : Strings) (v : List ℕ) → IsColumnOf n e col → col ≡ texts old → new.values ≡ inserted at count v old.values → new.home ≡ None → IsOf (Datum.bytes v) e
    → IsColumnWith e (inserted at count (Datum.bytes v) (column_values e col)) (home_inserted at count e (Datum.bytes v) (home_of col)) (texts new)
bytes_inserted_in Domain.bytes n at count col old new v whole e values none fits = bytes_inserted n at count col old new v whole e values none fits
bytes_inserted_in Domain.integer n at count col old new v whole e values none fits = absurd fits
bytes_inserted_in Domain.long n at count col old new v whole e values none fits = absurd fits
bytes_inserted_in Domain.text n at count col old new v whole e values none fits = absurd fits
bytes_inserted_in (Domain.relation g) n at count col old new v whole e values none fits = absurd fits

-- what is kept in a column has as many values as the column
numbers_count : (e : Domain) (n : ℕ) (c : Numbers) → IsColumnOf n e (integers c) → length c.values ≡ n
numbers_count Domain.integer n c h = h.count
numbers_count Domain.long n c h = h.count
numbers_count Domain.text n c h = absurd h
numbers_count Domain.bytes n c h = absurd h
numbers_count (Domain.relation g) n c h = absurd h

strings_count : (e : Domain) (n : ℕ) (c : Strings) → IsColumnOf n e (texts c) → length c.values ≡ n
strings_count Domain.integer n c h = absurd h
strings_count Domain.long n c h = absurd h
strings_count Domain.text n c h = h.count
strings_count Domain.bytes n c h = h.count
strings_count (Domain.relation g) n c h = absurd h

views_count : (e : Domain) (n : ℕ) (ts : List StoredTable) → IsColumnOf n e (views ts) → length ts ≡ n
views_count Domain.integer n c h = absurd h
views_count Domain.long n c h = absurd h
views_count Domain.text n c h = absurd h
views_count Domain.bytes n c h = absurd h
views_count (Domain.relation g) n c h = h.count

pub numbers_many : (e : Domain) (n : ℕ) (col : StoredColumn) (c : Numbers) → IsColumnOf n e col → col ≡ integers c → length c.values ≡ n
numbers_many e n col c h f = numbers_count e n c (subst (λ x. IsColumnOf n e x) f h)

pub strings_many : (e : Domain) (n : ℕ) (col : StoredColumn) (c : Strings) → IsColumnOf n e col → col ≡ texts c → length c.values ≡ n
strings_many e n col c h f = strings_count e n c (subst (λ x. IsColumnOf n e x) f h)

pub views_many : (e : Domain) (n : ℕ) (col : StoredColumn) (ts : List StoredTable) → IsColumnOf n e col → col ≡ views ts → length ts ≡ n
views_many e n col ts h f = views_count e n ts (subst (λ x. IsColumnOf n e x) f h)

-- a number that fits a column fits its width
pub integer_fits : (e : Domain) (z : ℤ) → IsOf (Datum.integer z) e → FitsSigned w32 z
integer_fits Domain.integer z h = h
integer_fits Domain.long z h = absurd h
integer_fits Domain.text z h = absurd h
integer_fits Domain.bytes z h = absurd h
integer_fits (Domain.relation g) z h = absurd h

pub long_fits : (e : Domain) (z : ℤ) → IsOf (Datum.long z) e → FitsSigned w64 z
long_fits Domain.integer z h = absurd h
long_fits Domain.long z h = h
long_fits Domain.text z h = absurd h
long_fits Domain.bytes z h = absurd h
long_fits (Domain.relation g) z h = absurd h

-- A value set.
pub integer_set : (e : Domain) (n i : ℕ) (col : StoredColumn) (z : ℤ) (homes : List Home) → IsColumnOf n e col → IsOf (Datum.integer z) e → IsColumnWith e (set (column_values e col) i (Datum.integer z)) (home_with i homes (home_of col)) (with_number i z col)
integer_set Domain.integer n i (integers c) z homes h fits =
    with_integers (record c { values = set c.values i z; home = None }) _ _ (map-set Datum.integer c.values i z) (All-set (λ y. FitsSigned w32 y) c.values i z fits h.fit) (sym (numbers-with i homes c.home))
integer_set Domain.integer n i (texts c) z homes h fits = absurd h
integer_set Domain.integer n i (views c) z homes h fits = absurd h
integer_set Domain.long n i col z homes h fits = absurd fits
integer_set Domain.text n i col z homes h fits = absurd fits
integer_set Domain.bytes n i col z homes h fits = absurd fits
integer_set (Domain.relation g) n i col z homes h fits = absurd fits

pub long_set : (e : Domain) (n i : ℕ) (col : StoredColumn) (z : ℤ) (homes : List Home) → IsColumnOf n e col → IsOf (Datum.long z) e → IsColumnWith e (set (column_values e col) i (Datum.long z)) (home_with i homes (home_of col)) (with_number i z col)
long_set Domain.long n i (integers c) z homes h fits =
    with_longs (record c { values = set c.values i z; home = None }) _ _ (map-set Datum.long c.values i z) (All-set (λ y. FitsSigned w64 y) c.values i z fits h.fit) (sym (numbers-with i homes c.home))
long_set Domain.long n i (texts c) z homes h fits = absurd h
long_set Domain.long n i (views c) z homes h fits = absurd h
long_set Domain.integer n i col z homes h fits = absurd fits
long_set Domain.text n i col z homes h fits = absurd fits
long_set Domain.bytes n i col z homes h fits = absurd fits
long_set (Domain.relation g) n i col z homes h fits = absurd fits

pub text_set : (e : Domain) (n i : ℕ) (col : StoredColumn) (v : List ℕ) (homes : List Home) → IsColumnOf n e col → IsOf (Datum.text v) e → IsColumnWith e (set (column_values e col) i (Datum.text v)) (home_with i homes (home_of col)) (with_string i v col)
text_set Domain.text n i (texts c) v homes h fits =
    with_texts (record c { values = set c.values i v; home = None }) _ _ (map-set Datum.text c.values i v) (All-set IsTextValue c.values i v (record { is_text = fits.0; short = fits.1 }) h.fit) refl (sym (strings-with i homes c.home))
text_set Domain.text n i (integers c) v homes h fits = absurd h
text_set Domain.text n i (views c) v homes h fits = absurd h
text_set Domain.integer n i col v homes h fits = absurd fits
text_set Domain.long n i col v homes h fits = absurd fits
text_set Domain.bytes n i col v homes h fits = absurd fits
text_set (Domain.relation g) n i col v homes h fits = absurd fits

pub bytes_set : (e : Domain) (n i : ℕ) (col : StoredColumn) (v : List ℕ) (homes : List Home) → IsColumnOf n e col → IsOf (Datum.bytes v) e → IsColumnWith e (set (column_values e col) i (Datum.bytes v)) (home_with i homes (home_of col)) (with_string i v col)
bytes_set Domain.bytes n i (texts c) v homes h fits =
    with_bytes (record c { values = set c.values i v; home = None }) _ _ (map-set Datum.bytes c.values i v) (All-set (λ content. length content ≤ max_bytes) c.values i v fits h.fit) refl (sym (strings-with i homes c.home))
bytes_set Domain.bytes n i (integers c) v homes h fits = absurd h
bytes_set Domain.bytes n i (views c) v homes h fits = absurd h
bytes_set Domain.integer n i col v homes h fits = absurd fits
bytes_set Domain.long n i col v homes h fits = absurd fits
bytes_set Domain.text n i col v homes h fits = absurd fits
bytes_set (Domain.relation g) n i col v homes h fits = absurd fits

-- a table set in a row
pub view_set : (h : Heading) (n i : ℕ) (col : StoredColumn) (t : StoredTable) → IsColumnOf n (Domain.relation h) col → IsTableOf (attributes_of h) t
    → IsColumnWith (Domain.relation h) (set (column_values (Domain.relation h) col) i (Datum.relation (relation_of t.rows))) (home_with i t.homes (home_of col)) (with_view i t col)
view_set h n i (views ts) t whole inner =
    let homes = λ (u : StoredTable). u.homes in
    with_views h (set ts i t) _ _ (map-set view_of ts i t) (All-set (IsTableOf (attributes_of h)) ts i t inner whole.whole)
    (ap (λ hs. tables (row_homes hs)) (map-set homes ts i t ∙ ap (λ hs. set hs i t.homes) (sym (each_of-row_homes (map homes ts)))))
view_set h n i (integers c) t whole inner = absurd whole
view_set h n i (texts c) t whole inner = absurd whole

-- the table of a view value
pub made_view_set : (e : Domain) (n i : ℕ) (col : StoredColumn) (rows : List (List Datum)) (t : StoredTable) → IsColumnOf n e col → IsOf (Datum.relation (relation_of rows)) e → IsTableOfRows e rows t
    → IsColumnWith e (set (column_values e col) i (Datum.relation (relation_of rows))) (home_with i (empty_homes_in e (Datum.relation (relation_of rows))) (home_of col)) (with_view i t col)
made_view_set Domain.integer n i col rows t whole fits made = absurd fits
made_view_set Domain.long n i col rows t whole fits made = absurd fits
made_view_set Domain.text n i col rows t whole fits made = absurd fits
made_view_set Domain.bytes n i col rows t whole fits made = absurd fits
made_view_set (Domain.relation h) n i col rows t whole fits made =
    let d = Datum.relation (relation_of rows) in
    let done = view_set h n i col t whole (table_of_rows h rows t made (view_rows h rows fits)) in
    subst (λ x. IsColumnWith (Domain.relation h) (set (column_values (Domain.relation h) col) i x) (home_with i (empty_homes_in (Domain.relation h) d) (home_of col)) (with_view i t col)) (view_of_rows h rows t made)
    (subst (λ hs. IsColumnWith (Domain.relation h) (set (column_values (Domain.relation h) col) i (Datum.relation (relation_of t.rows))) (home_with i hs (home_of col)) (with_view i t col)) (homes_of_rows h rows t made) done)

-- a place in the values is one in what is kept
pub has_number : (e : Domain) (n i : ℕ) (col : StoredColumn) → IsIntegers col → IsColumnOf n e col → i < length (column_values e col) → HasNumber col i
has_number e n i (integers c) k h p = let a = length-column_values n e (integers c) h in let b = numbers_count e n c h in omega arith
has_number e n i (texts c) k h p = absurd k
has_number e n i (views c) k h p = absurd k

pub has_string : (e : Domain) (n i : ℕ) (col : StoredColumn) → IsTexts col → IsColumnOf n e col → i < length (column_values e col) → HasString col i
has_string e n i (texts c) k h p = let a = length-column_values n e (texts c) h in let b = strings_count e n c h in omega arith
has_string e n i (integers c) k h p = absurd k
has_string e n i (views c) k h p = absurd k

pub has_view : (e : Domain) (n i : ℕ) (col : StoredColumn) → AreViews col → IsColumnOf n e col → i < length (column_values e col) → HasView col i
has_view e n i (views ts) k h p = let a = length-column_values n e (views ts) h in let b = views_count e n ts h in omega arith
has_view e n i (integers c) k h p = absurd k
has_view e n i (texts c) k h p = absurd k

-- what a view column keeps are tables
pub column_of_views : (n : ℕ) (h : Heading) (col : StoredColumn) → IsColumnOf n (Domain.relation h) col → AreViews col
column_of_views n h (views ts) whole = tt
column_of_views n h (integers c) whole = whole
column_of_views n h (texts c) whole = whole
