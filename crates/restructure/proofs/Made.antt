-- A table that is made column by column, and a view column row by row.
use Rattle.std.proofs.Common.{◌≡◌, ℕ, ◌+◌, ◌<◌, ◌≤◌, List, [], ◌∷◌, ◌++◌, length, get_or, take, map, replicate, All, Option, Some, None, MatchOption, pos, refl, ap, sym, subst, ◌∙◌, arith}
use Rattle.std.specs.List.{slice_get}
use Rattle.std.proofs.lemmas.List.{length-map, get_or-map, take_more, take_all, map-append}
use Rattle.std.proofs.lemmas.List.Elements.{All-push, All-nil}
use Rattle.std.proofs.lemmas.Option.{get_or_from_slice_get, slice_get_within}
use Rattle.mk_value.specs.Heading.{Domain, Heading, Attribute, attributes_of, heading_of, find}
use Rattle.mk_value.specs.Data.{Datum, integer, relation, relation_of, default_of, IsRowOf}
use Rattle.mk_value.specs.Tables.{domain_at}
use Rattle.mk_value.proofs.Headings.{attributes_of-heading_of}
use Rattle.mk_value.proofs.Relations.{rows_of-relation_of, row_fits_length}
use Rattle.tables.specs.Columns.{StoredColumn, views, home_of, column_values, IsTableOf, IsColumnOf, IsColumnWith, AreColumnsIn}
use Rattle.tables.specs.Homes.{Home, no_home, tables, row_homes, each_of, column_of, rows_in, empty_home}
use Rattle.tables.specs.Tables.{StoredTable, IsTable}
use Rattle.tables.proofs.ColumnWith.{with_views}
use Rattle.tables.proofs.Lists.{each_of-row_homes}
use Rattle.tables.proofs.Rebuilding.{IsRebuilt, AreRebuilt, AreFirstColumns, first_columns_more, rebuilt_as}
use Rattle.view_store.proofs.Walking.{place_within}
use Rattle.restructure.specs.Columns.{IsUnder, IsColumnUnder}
use Rattle.restructure.specs.Restructuring.{home_under, homes_under, restructured, restructured_home, restructured_row, restructured_rows, restructured_value, row_under, value_under, zip_with}
use Rattle.restructure.proofs.Back.{property_by_property}
use Rattle.restructure.proofs.Lists.{map_twice, map-known, map-constant, map-same, zip_with-maps}
use Rattle.restructure.proofs.Whole.{row_whole}

-- The tables of the first rows, under another schema.
pub record AreMade (old : List StoredTable) (new : List Attribute) (n : ℕ) (made : List StoredTable) : Type 0 where
  pub are : made ≡ map (λ t. restructured t new) (take n old)
  pub whole : All (IsTableOf new) made

pub none_made : (old : List StoredTable) (new : List Attribute) (made : List StoredTable) → made ≡ [] → AreMade old new 0 made
none_made old new made e = record { are = e; whole = subst (All (IsTableOf new)) (sym e) (All-nil (IsTableOf new)) }

pub one_more_made : (old : List StoredTable) (new : List Attribute) (n : ℕ) (done more : List StoredTable) (x t : StoredTable) → AreMade old new n done → slice_get old n ≡ Some x → t ≡ restructured x new → IsTableOf new t
    → more ≡ done ++ t ∷ [] → AreMade old new (n + 1) more
one_more_made old new n done more x t h read made whole e =
    let within = slice_get_within old n x read in
    let here : get_or old n x ≡ x = get_or_from_slice_get old n x x read in
    let f = λ (u : StoredTable). restructured u new in
    record {
      are = e ∙ ap (λ ts. ts ++ t ∷ []) h.are ∙ ap (λ u. map f (take n old) ++ u ∷ []) (made ∙ ap f (sym here))
          ∙ sym (ap (map f) (take_more old n x within) ∙ map-append f (take n old) (get_or old n x ∷ []));
      whole = subst (All (IsTableOf new)) (sym e) (All-push (IsTableOf new) done t h.whole whole);
    }

pub all_made : (old : List StoredTable) (new : List Attribute) (n : ℕ) (made : List StoredTable) → AreMade old new n made → length old ≤ n → made ≡ map (λ t. restructured t new) old
all_made old new n made h p = h.are ∙ ap (map (λ (t : StoredTable). restructured t new)) (take_all n old p)

-- the column of these tables
abbrev view_of : StoredTable → Datum
view_of t = relation (relation_of t.rows)

pub views_made : (n : ℕ) (h : Heading) (new : List Attribute) (was : StoredColumn) (ts made : List StoredTable) → IsColumnOf n (Domain.relation h) was → was ≡ views ts → made ≡ map (λ t. restructured t new) ts → All (IsTableOf new) made
    → IsUnder (Domain.relation h) (Domain.relation (heading_of new)) was (views made)
views_made n h new was ts made whole is made_is tables_whole =
    let g = heading_of new in
    let old = Domain.relation h in
    let value = restructured_value old (Domain.relation g) in
    let inside : IsColumnOf n old (views ts) = subst (IsColumnOf n old) is whole in
    let same : (t : StoredTable) → IsTableOf (attributes_of h) t → view_of (restructured t new) ≡ value (view_of t) = λ t w.
    ap (λ s. relation (relation_of (map (row_under s g) t.rows))) w.same_schema ∙ ap (λ rows. relation (relation_of (map (row_under (attributes_of h) g) rows))) (sym (rows_of-relation_of t.rows)) in
    let values : map view_of made ≡ map value (map view_of ts) =
    ap (map view_of) made_is ∙ map_twice view_of (λ t. restructured t new) ts
    ∙ map-known (IsTableOf (attributes_of h)) (λ t. view_of (restructured t new)) (λ t. value (view_of t)) same ts inside.whole
    ∙ sym (map_twice value view_of ts) in
    let homes_of = λ (homes : List Home) (d : Datum). homes_under (attributes_of h) g homes (rows_in d) in
    let same_homes : (t : StoredTable) → IsTableOf (attributes_of h) t → (restructured t new).homes ≡ homes_of t.homes (view_of t) = λ t w.
    ap (λ s. homes_under s g t.homes t.rows) w.same_schema ∙ ap (λ rows. homes_under (attributes_of h) g t.homes rows) (sym (rows_of-relation_of t.rows)) in
    let homes : map (λ (t : StoredTable). t.homes) made ≡ zip_with homes_of (each_of (row_homes (map (λ (t : StoredTable). t.homes) ts))) (map view_of ts) =
    ap (map (λ (t : StoredTable). t.homes)) made_is ∙ map_twice (λ (t : StoredTable). t.homes) (λ t. restructured t new) ts
    ∙ map-known (IsTableOf (attributes_of h)) (λ t. (restructured t new).homes) (λ t. homes_of t.homes (view_of t)) same_homes ts inside.whole
    ∙ sym (zip_with-maps homes_of (λ (t : StoredTable). t.homes) view_of ts)
    ∙ ap (λ hs. zip_with homes_of hs (map view_of ts)) (sym (each_of-row_homes (map (λ (t : StoredTable). t.homes) ts))) in
    subst (λ c. IsUnder old (Domain.relation g) c (views made)) (sym is)
    (with_views g made _ _ values (subst (λ s. All (IsTableOf s) made) (sym (attributes_of-heading_of new)) tables_whole) (ap (λ hs. tables (row_homes hs)) homes))

-- The column of a new property.
pub under_place : (t : StoredTable) (k : ℕ) (old new : Domain) (o : Option ℕ) (was made : StoredColumn) → o ≡ Some k → old ≡ domain_at t.schema k → column_values old was ≡ column_of t.rows k → home_of was ≡ get_or t.homes k no_home
    → IsUnder old new was made → IsColumnUnder t o new made
under_place t k old new o was made found kind values home h =
    let into = λ (e : Domain) (vs : List Datum) (x : Home). IsColumnWith new (map (restructured_value e new) vs) (restructured_home e new x vs) made in
    let here : into (domain_at t.schema k) (column_of t.rows k) (get_or t.homes k no_home) =
    subst (λ e. into e (column_of t.rows k) (get_or t.homes k no_home)) kind
    (subst (λ vs. into old vs (get_or t.homes k no_home)) values (subst (λ x. into old (column_values old was) x) home h)) in
    subst (λ p. IsColumnUnder t p new made) (sym found)
    (subst (λ vs. IsColumnWith new vs (home_under t.schema (Some k) new t.homes t.rows) made) (map_twice (restructured_value (domain_at t.schema k) new) (λ (r : List Datum). get_or r k (integer (pos 0))) t.rows) here)

all_known : (rows : List (List Datum)) → All (λ (_ : List Datum). Unit {0}) rows
all_known rows = λ i d p. tt

pub under_none : (t : StoredTable) (n : ℕ) (new : Domain) (o : Option ℕ) (made : StoredColumn) → o ≡ None → n ≡ length t.rows
    → IsColumnWith new (replicate n (default_of new)) (empty_home new (replicate n (default_of new))) made → IsColumnUnder t o new made
under_none t n new o made none count h =
    let all : map (λ (_ : List Datum). default_of new) t.rows ≡ replicate n (default_of new) =
    map-constant (λ _. Unit {0}) (λ (_ : List Datum). default_of new) (default_of new) (λ _ _. refl) t.rows (all_known t.rows) ∙ ap (λ m. replicate m (default_of new)) (sym count) in
    subst (λ p. IsColumnUnder t p new made) (sym none)
    (subst (λ vs. IsColumnWith new vs (empty_home new vs) made) (sym all) h)

-- a property that was found has a place
pub found_within : (schema other : List Attribute) (name : List ℕ) (o : Option ℕ) → o ≡ find other name → other ≡ schema → MatchOption o (Unit {0}) (λ k. k < length schema)
found_within schema other name None e f = tt
found_within schema other name (Some k) e f = place_within schema name k (ap (λ s. find s name) (sym f) ∙ sym e)

-- the column at place k of a table under another schema
homes_each : (old new : List Attribute) (homes : List Home) (rows : List (List Datum)) → homes_under old (heading_of new) homes rows ≡ map (λ a. home_under old (find old a.name) a.domain homes rows) new
homes_each old [] homes rows = refl
homes_each old (a ∷ new) homes rows = ap (λ hs. home_under old (find old a.name) a.domain homes rows ∷ hs) (homes_each old new homes rows)

pub one_column_more : (t : StoredTable) (new : List Attribute) (k : ℕ) (a : Attribute) (cols more : List StoredColumn) (c : StoredColumn) → AreFirstColumns (restructured t new) k cols → k < length new → a ≡ get_or new k (record { name = []; domain = Domain.integer })
    → more ≡ cols ++ c ∷ [] → IsColumnUnder t (find t.schema a.name) a.domain c → AreFirstColumns (restructured t new) (k + 1) more
one_column_more t new k a cols more c done p here e h =
    let none : Attribute = record { name = []; domain = Domain.integer } in
    let value = λ (b : Attribute). value_under t.schema (find t.schema b.name) b.domain in
    let home = λ (b : Attribute). home_under t.schema (find t.schema b.name) b.domain t.homes t.rows in
    let domain : a.domain ≡ domain_at new k = ap (λ (b : Attribute). b.domain) here in
    let row_value : (row : List Datum) → get_or (restructured_row t.schema new row) k (integer (pos 0)) ≡ value a row = λ row.
    ap (λ ds. get_or ds k (integer (pos 0))) (property_by_property t.schema new row) ∙ get_or-map (λ b. value b row) new k none (integer (pos 0)) p ∙ ap (λ b. value b row) (sym here) in
    let values : column_of (restructured_rows t.schema new t.rows) k ≡ map (value a) t.rows =
    map_twice (λ (r : List Datum). get_or r k (integer (pos 0))) (restructured_row t.schema new) t.rows ∙ map-same _ (value a) row_value t.rows in
    let homes : get_or (homes_under t.schema (heading_of new) t.homes t.rows) k no_home ≡ home a =
    ap (λ hs. get_or hs k no_home) (homes_each t.schema new t.homes t.rows) ∙ get_or-map home new k none no_home p ∙ ap home (sym here) in
    first_columns_more (restructured t new) k cols more c done e
    (subst (λ d. IsColumnWith d (column_of (restructured_rows t.schema new t.rows) k) (get_or (homes_under t.schema (heading_of new) t.homes t.rows) k no_home) c) domain
    (subst (λ vs. IsColumnWith a.domain vs (get_or (homes_under t.schema (heading_of new) t.homes t.rows) k no_home) c) (sym values)
    (subst (λ x. IsColumnWith a.domain (map (value a) t.rows) x c) (sym homes) h)))

-- the table that all of the columns are
pub table_made : (t : StoredTable) (new : List Attribute) (n : ℕ) (cols : List StoredColumn) → IsTable t → n ≡ length t.rows → AreColumnsIn (restructured t new) cols → AreRebuilt n new cols (restructured t new)
table_made t new n cols whole count h =
    let long = length-map t.rows (restructured_row t.schema new) in
    let few = whole.rows.few in
    let known : IsRebuilt (restructured t new) = record {
      few = omega (arith, long, few);
      wide = λ i d p.
          let old : IsRowOf (get_or t.rows i []) t.schema = whole.rows.whole i [] (omega (arith, long)) in
          subst (λ row. length row ≡ length new) (sym (get_or-map (restructured_row t.schema new) t.rows i [] d (omega (arith, long))))
          (row_fits_length (restructured_row t.schema new (get_or t.rows i [])) new (row_whole t.schema new (get_or t.rows i []) old));
      homes = ap length (homes_each t.schema new t.homes t.rows) ∙ length-map new _;
    } in
    rebuilt_as (restructured t new) n new cols known h (long ∙ sym count) refl
