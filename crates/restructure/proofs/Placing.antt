-- A table under another schema rests on the table that it was made of, whatever homes that one has.
use Rattle.std.proofs.Common.{◌≡◌, ◌≢◌, ℕ, zero, suc, ◌+◌, ◌<◌, List, [], ◌∷◌, ◌++◌, length, get_or, map, drop, All, pos, Option, Some, None, refl, ap, sym, subst, ◌∙◌, arith, append_assoc}
use Rattle.std.specs.Prelude.{AllPairs}
use Rattle.std.specs.Cmp.Lexicographic.{same_text}
use Rattle.std.proofs.lemmas.List.{length-append}
use Rattle.std.proofs.lemmas.List.Elements.{All-head, All-tail, All-cons}
use Rattle.std.proofs.lemmas.List.Kept.{AllPairs-cons}
use Rattle.std.proofs.lemmas.List.Quantifiers.{position-Some}
use Rattle.mk_value.specs.Names.{same_bytes}
use Rattle.mk_value.specs.Heading.{Domain, Heading, no_attributes, attribute, Attribute, attributes_of, heading_of, find, HaveDistinctNames, IsDomain, AreAttributes, IsHeading}
use Rattle.mk_value.specs.Data.{Datum, integer, relation, relation_of, IsOf, IsRowOf, default_of}
use Rattle.mk_value.specs.Tables.{domain_at}
use Rattle.mk_value.proofs.Headings.{AreAttributes-heading_of, attributes_of-heading_of}
use Rattle.mk_value.proofs.Relations.{rows_of-relation_of}
use Rattle.tables.specs.Homes.{PlainColumn, Home, no_home, tables, ColumnHomes, column_homes, columns_of, RowHomes, no_rows, row, each_of, row_homes, column_of, rows_in, empty_home}
use Rattle.tables.specs.Rests.{homed_in, homed_rows, homed_from, homed_columns, Rest, RestsOn}
use Rattle.tables.specs.Tables.{StoredTable, IsTable}
use Rattle.tables.proofs.Resting.{homed_in-empty, Rest-none}
use Rattle.view_store.proofs.Walking.{place_within}
use Rattle.restructure.specs.Restructuring.{restructured_value, row_under, value_under, restructured_rows, zip_with, restructured_home, home_under, homes_under, restructured}
use Rattle.tables.proofs.Apart.{flat, FromPlace, AreFromPlaces, Differ, Rest-self, Rest-append, Rest-parts}
use Rattle.restructure.proofs.Lists.{map-same, map_twice, behind}
use Rattle.tables.proofs.Lists.{At, drop_at}
use Rattle.restructure.proofs.Same.{no_attribute, value_same}
use Rattle.tables.proofs.Values.{column_fits, rows_inside}

-- the placed columns of each column of a table, from the place k on
abbrev parts : List Home → List Attribute → ℕ → List (List Datum) → List (List PlainColumn)
parts [] schema k rows = []
parts (h ∷ homes) schema k rows = homed_in h (domain_at schema k) (column_of rows k) ∷ parts homes schema (k + 1) rows

homed_from-parts : (homes : List Home) (schema : List Attribute) (k : ℕ) (rows : List (List Datum)) → homed_from (column_homes homes) schema k rows ≡ flat (parts homes schema k rows)
homed_from-parts [] schema k rows = refl
homed_from-parts (h ∷ homes) schema k rows = ap (λ cs. homed_in h (domain_at schema k) (column_of rows k) ++ cs) (homed_from-parts homes schema (k + 1) rows)

part_at : (homes : List Home) (schema : List Attribute) (k j : ℕ) (rows : List (List Datum)) → get_or (parts homes schema k rows) j [] ≡ homed_in (get_or homes j no_home) (domain_at schema (k + j)) (column_of rows (k + j))
part_at [] schema k j rows = refl
part_at (h ∷ homes) schema k zero rows = ap (λ m. homed_in h (domain_at schema m) (column_of rows m)) (let e : k ≡ k + 0 = omega arith in e)
part_at (h ∷ homes) schema k (suc j) rows =
    part_at homes schema (k + 1) j rows ∙ ap (λ m. homed_in (get_or homes j no_home) (domain_at schema m) (column_of rows m)) (let e : (k + 1) + j ≡ k + suc j = omega arith in e)

pub columns_back : (homes : ColumnHomes) → column_homes (columns_of homes) ≡ homes
columns_back ColumnHomes.no_columns = refl
columns_back (ColumnHomes.column h rest) = ap (λ hs. ColumnHomes.column h hs) (columns_back rest)

-- a column of the same kind keeps its values
pub values_kept : (f : Datum → Datum) (e : Domain) → ((d : Datum) → IsOf d e → f d ≡ d) → (values : List Datum) → All (λ d. IsOf d e) values → map f values ≡ values
values_kept f e same [] h = refl
values_kept f e same (d ∷ ds) h =
    ap (λ x. x ∷ map f ds) (same d (All-head (λ x. IsOf x e) d ds h)) ∙ ap (λ xs. d ∷ xs) (values_kept f e same ds (All-tail (λ x. IsOf x e) d ds h))

column_kept : (e : Domain) (h : Home) (values : List Datum) → IsDomain e → All (λ d. IsOf d e) values → Rest (homed_in h e (map (restructured_value e e) values)) (homed_in h e values)
column_kept e h values whole fits =
    subst (λ vs. Rest (homed_in h e vs) (homed_in h e values)) (sym (values_kept (restructured_value e e) e (λ d. value_same e d whole) values fits)) (Rest-self (homed_in h e values))

empty_rests : (new : Domain) (values more : List Datum) (old : List PlainColumn) → Rest (homed_in (empty_home new values) new more) old
empty_rests new values more old = Rest-none _ old (homed_in-empty new values new more)

-- the rows of a view, each on its own
rows_rest : (new old : Heading) (homes_of : List Home → Datum → List Home) (value : Datum → Datum)
    → ((homes : ColumnHomes) (d : Datum) → IsOf d (Domain.relation old)
    → Rest (homed_from (column_homes (homes_of (columns_of homes) d)) (attributes_of new) 0 (rows_in (value d))) (homed_from homes (attributes_of old) 0 (rows_in d)))
    → (rows : RowHomes) (values : List Datum) → All (λ d. IsOf d (Domain.relation old)) values
    → Rest (homed_rows (row_homes (zip_with homes_of (each_of rows) values)) (Domain.relation new) (map value values)) (homed_rows rows (Domain.relation old) values)
rows_rest new old homes_of value each no_rows values fits = Rest-none [] [] refl
rows_rest new old homes_of value each (row homes rest) [] fits = Rest-none [] _ refl
rows_rest new old homes_of value each (row homes rest) (d ∷ ds) fits =
    Rest-append _ _ _ _ (each homes d (All-head (λ x. IsOf x (Domain.relation old)) d ds fits))
    (rows_rest new old homes_of value each rest ds (All-tail (λ x. IsOf x (Domain.relation old)) d ds fits))

-- no two properties of distinct names have the same place in the old schema
apart_places : (old : List Attribute) (one other : List ℕ) → one ≢ other → Differ (find old one) (find old other)
apart_places old one other ne j e f =
    let here = (position-Some (λ a. same_bytes a.name one) old j no_attribute e).1 in
    let there = (position-Some (λ a. same_bytes a.name other) old j no_attribute f).1 in
    ne (sym (same_text (get_or old j no_attribute).name one (sym here)) ∙ same_text (get_or old j no_attribute).name other (sym there))

distinct_head : (a : Attribute) (rest : List Attribute) → HaveDistinctNames (a ∷ rest) → All (λ b. a.name ≢ b.name) rest
distinct_head a rest h k d p = h zero (suc k) d (omega arith) (omega arith)

distinct_tail : (a : Attribute) (rest : List Attribute) → HaveDistinctNames (a ∷ rest) → HaveDistinctNames rest
distinct_tail a rest h i j d p q = h (suc i) (suc j) d (omega arith) (omega arith)

abbrev places : List Attribute → List Attribute → List (Option ℕ)
places old new = map (λ a. find old a.name) new

places_all : (old : List Attribute) (name : List ℕ) (rest : List Attribute) → All (λ b. name ≢ b.name) rest → All (Differ (find old name)) (places old rest)
places_all old name [] h = λ k d p. absurd (omega arith)
places_all old name (b ∷ rest) h =
    All-cons (Differ (find old name)) (find old b.name) (places old rest)
    (apart_places old name b.name (All-head (λ b. name ≢ b.name) b rest h)) (places_all old name rest (All-tail (λ b. name ≢ b.name) b rest h))

places_differ : (old new : List Attribute) → HaveDistinctNames new → AllPairs Differ (places old new)
places_differ old [] h = λ i j d p q. absurd (omega arith)
places_differ old (a ∷ rest) h =
    AllPairs-cons Differ (find old a.name) (places old rest) (places_all old a.name rest (distinct_head a rest h)) (places_differ old rest (distinct_tail a rest h))

-- the column of a property that has a place in the old schema, or none
column_rests : (e : Domain) (old : List Attribute) (o : Option ℕ) (homes : List Home) (rows : List (List Datum)) → ((k : ℕ) → o ≡ Some k → k < length old)
    → ((k : ℕ) → k < length old → Rest (homed_in (restructured_home (domain_at old k) e (get_or homes k no_home) (column_of rows k)) e (map (restructured_value (domain_at old k) e) (column_of rows k))) (homed_in (get_or homes k no_home) (domain_at old k) (column_of rows k)))
    → FromPlace (parts homes old 0 rows) o (homed_in (home_under old o e homes rows) e (map (value_under old o e) rows))
column_rests e old None homes rows within each = homed_in-empty e (map (λ _. default_of e) rows) e (map (λ _. default_of e) rows)
column_rests e old (Some k) homes rows within each =
    let values : map (restructured_value (domain_at old k) e) (column_of rows k) ≡ map (value_under old (Some k) e) rows = map_twice (restructured_value (domain_at old k) e) (λ r. get_or r k (integer (pos 0))) rows in
    let part : homed_in (get_or homes k no_home) (domain_at old k) (column_of rows k) ≡ get_or (parts homes old 0 rows) k [] =
    ap (λ m. homed_in (get_or homes k no_home) (domain_at old m) (column_of rows m)) (let n : k ≡ 0 + k = omega arith in n) ∙ sym (part_at homes old 0 k rows) in
    subst (λ cs. Rest (homed_in (home_under old (Some k) e homes rows) e (map (value_under old (Some k) e) rows)) cs) part
    (subst (λ vs. Rest (homed_in (home_under old (Some k) e homes rows) e vs) (homed_in (get_or homes k no_home) (domain_at old k) (column_of rows k))) values (each k (within k refl)))

mutual
  home_rests : (new old : Domain) (h : Home) (values : List Datum) → IsDomain new → All (λ d. IsOf d old) values
      → Rest (homed_in (restructured_home old new h values) new (map (restructured_value old new) values)) (homed_in h old values)
  home_rests Domain.integer Domain.integer h values whole fits = column_kept Domain.integer h values tt fits
  home_rests Domain.long Domain.long h values whole fits = column_kept Domain.long h values tt fits
  home_rests Domain.text Domain.text h values whole fits = column_kept Domain.text h values tt fits
  home_rests Domain.bytes Domain.bytes h values whole fits = column_kept Domain.bytes h values tt fits
  home_rests (Domain.relation g) (Domain.relation old) (tables rows) values whole fits =
      rows_rest g old (λ homes d. homes_under (attributes_of old) g homes (rows_in d)) (restructured_value (Domain.relation old) (Domain.relation g))
      (λ homes d fit.
      let inside = homes_rest g (attributes_of old) (columns_of homes) (rows_in d) (attributes_of g) 0 (λ _. []) (λ _. refl) refl whole.1 (rows_inside d (Domain.relation old) fit).whole in
      let made = map (row_under (attributes_of old) g) (rows_in d) in
      let here : Rest (homed_from (column_homes (homes_under (attributes_of old) g (columns_of homes) (rows_in d))) (attributes_of g) 0 made) (homed_from (column_homes (columns_of homes)) (attributes_of old) 0 (rows_in d)) =
      subst (λ cs. Rest cs (homed_from (column_homes (columns_of homes)) (attributes_of old) 0 (rows_in d))) (sym (homed_from-parts (homes_under (attributes_of old) g (columns_of homes) (rows_in d)) (attributes_of g) 0 made))
      (subst (λ cs. Rest (flat (parts (homes_under (attributes_of old) g (columns_of homes) (rows_in d)) (attributes_of g) 0 made)) cs) (sym (homed_from-parts (columns_of homes) (attributes_of old) 0 (rows_in d)))
      (Rest-parts _ (places (attributes_of old) (attributes_of g)) _ inside (places_differ (attributes_of old) (attributes_of g) whole.0.distinct))) in
      subst (λ hs. Rest (homed_from (column_homes (homes_under (attributes_of old) g (columns_of homes) (rows_in d))) (attributes_of g) 0 (rows_in (relation (relation_of made)))) (homed_from hs (attributes_of old) 0 (rows_in d))) (columns_back homes)
      (subst (λ rs. Rest (homed_from (column_homes (homes_under (attributes_of old) g (columns_of homes) (rows_in d))) (attributes_of g) 0 rs) (homed_from (column_homes (columns_of homes)) (attributes_of old) 0 (rows_in d))) (sym (rows_of-relation_of made)) here))
      rows values fits
  home_rests new old h values whole fits = empty_rests new (map (restructured_value old new) values) (map (restructured_value old new) values) (homed_in h old values)

  -- the columns of the properties behind those that are in front of each row
  homes_rest : (g : Heading) (old : List Attribute) (homes : List Home) (rows : List (List Datum)) (new : List Attribute) (k : ℕ) (front : List Datum → List Datum) → ((r : List Datum) → length (front r) ≡ k)
      → drop k new ≡ attributes_of g → AreAttributes g → All (λ r. IsRowOf r old) rows
      → AreFromPlaces (parts homes old 0 rows) (places old (attributes_of g)) (parts (homes_under old g homes rows) new k (map (λ r. front r ++ row_under old g r) rows))
  homes_rest no_attributes old homes rows new k front long at whole fits = tt
  homes_rest (attribute n e rest) old homes rows new k front long at whole fits =
      let value = value_under old (find old n) e in
      let more = λ (r : List Datum). front r ++ (value r ∷ []) in
      let all = λ (r : List Datum). front r ++ (value r ∷ row_under old rest r) in
      let found : At new k (record { name = n; domain = e }) (attributes_of rest) no_attribute = drop_at new k (record { name = n; domain = e }) (attributes_of rest) no_attribute at in
      let domain : domain_at new k ≡ e = ap (λ (b : Attribute). b.domain) found.here in
      let column : column_of (map all rows) k ≡ map value rows =
      map_twice (λ r. get_or r k (integer (pos 0))) all rows
      ∙ map-same (λ r. get_or (all r) k (integer (pos 0))) value (λ r. behind (front r) (value r) (row_under old rest r) k (integer (pos 0)) (long r)) rows in
      let first = column_rests e old (find old n) homes rows (λ j is. place_within old n j is)
      (λ j p. home_rests e (domain_at old j) (get_or homes j no_home) (column_of rows j) whole.1 (column_fits old j p rows fits)) in
      let same : map (λ r. more r ++ row_under old rest r) rows ≡ map all rows = map-same (λ r. more r ++ row_under old rest r) all (λ r. append_assoc (front r) (value r ∷ []) (row_under old rest r)) rows in
      let others = homes_rest rest old homes rows new (k + 1) more (λ r. length-append (front r) (value r ∷ []) ∙ ap (λ m. m + 1) (long r)) found.next whole.2 fits in (
        subst (λ x. FromPlace (parts homes old 0 rows) (find old n) (homed_in (home_under old (find old n) e homes rows) x (column_of (map all rows) k))) (sym domain)
            (subst (λ vs. FromPlace (parts homes old 0 rows) (find old n) (homed_in (home_under old (find old n) e homes rows) e vs)) (sym column) first),
        subst (λ rs. AreFromPlaces (parts homes old 0 rows) (places old (attributes_of rest)) (parts (homes_under old rest homes rows) new (k + 1) rs)) same others,
      )

-- a whole table under a whole schema
pub restructured_rests : (t : StoredTable) (new : List Attribute) → IsTable t → IsHeading new → RestsOn (restructured t new) t
restructured_rests t new table heading =
    let old = t.schema in
    let homes = homes_under old (heading_of new) t.homes t.rows in
    let attributes = attributes_of-heading_of new in
    let inside : AreFromPlaces (parts t.homes old 0 t.rows) (places old (attributes_of (heading_of new))) (parts homes new 0 (restructured_rows old new t.rows)) =
    homes_rest (heading_of new) old t.homes t.rows new 0 (λ _. []) (λ _. refl) (sym attributes) (AreAttributes-heading_of new heading.attributes) table.rows.whole in
    let differ : AllPairs Differ (places old (attributes_of (heading_of new))) = subst (λ s. AllPairs Differ (places old s)) (sym attributes) (places_differ old new heading.limits.distinct) in
    subst (λ cs. Rest cs (homed_columns t)) (sym (homed_from-parts homes new 0 (restructured_rows old new t.rows)))
    (subst (λ cs. Rest (flat (parts homes new 0 (restructured_rows old new t.rows))) cs) (sym (homed_from-parts t.homes old 0 t.rows))
    (Rest-parts _ (places old (attributes_of (heading_of new))) _ inside differ))
