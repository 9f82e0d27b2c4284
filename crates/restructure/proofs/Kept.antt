-- Under its own schema each column keeps its home.
use Rattle.std.proofs.Common.{◌≡◌, ℕ, ◌+◌, List, [], ◌∷◌, length, get_or, drop, All, refl, ap, sym, subst, ◌∙◌, arith}
use Rattle.std.proofs.lemmas.List.Elements.{All-head, All-tail}
use Rattle.mk_value.specs.Heading.{Domain, Heading, no_attributes, attribute, Attribute, attributes_of, heading_of, find, HaveDistinctNames, IsDomain, AreAttributes}
use Rattle.mk_value.specs.Data.{Datum, IsOf, IsRowOf}
use Rattle.mk_value.specs.Tables.{domain_at}
use Rattle.mk_value.proofs.Headings.{AreAttributes-heading_of, attributes_of-heading_of}
use Rattle.tables.specs.Homes.{Home, no_home, numbers, strings, tables, ColumnHomes, column_homes, columns_of, RowHomes, no_rows, row, each_of, row_homes, column_of, rows_in}
use Rattle.tables.specs.Shapes.{IsHomeOf, AreRowHomesOf, AreHomesOf, HasHomes}
use Rattle.tables.specs.Tables.{StoredTable, IsTable}
use Rattle.tables.proofs.Lists.{drop_at}
use Rattle.tables.proofs.Rebuilding.{homes_paired}
use Rattle.tables.proofs.Values.{column_fits, rows_inside}
use Rattle.restructure.specs.Restructuring.{restructured_home, restructured_rows, home_under, homes_under, zip_with, restructured}
use Rattle.restructure.proofs.Placing.{columns_back}
use Rattle.restructure.proofs.Same.{no_attribute, find_at, drop_next, drop_none, rows_kept}

-- the rows of a view, each on its own
rows_same : (g : Heading) (homes_of : List Home → Datum → List Home) → ((homes : ColumnHomes) (d : Datum) → IsOf d (Domain.relation g) → AreHomesOf homes g 0 (rows_in d) → homes_of (columns_of homes) d ≡ columns_of homes)
    → (rows : RowHomes) (values : List Datum) → All (λ d. IsOf d (Domain.relation g)) values → AreRowHomesOf rows g values → row_homes (zip_with homes_of (each_of rows) values) ≡ rows
rows_same g homes_of each no_rows [] fits s = refl
rows_same g homes_of each no_rows (d ∷ ds) fits s = absurd s
rows_same g homes_of each (row homes rest) [] fits s = absurd s
rows_same g homes_of each (row homes rest) (d ∷ ds) fits s =
    ap (λ hs. row (column_homes hs) (row_homes (zip_with homes_of (each_of rest) ds))) (each homes d (All-head (λ x. IsOf x (Domain.relation g)) d ds fits) s.0)
    ∙ ap (λ hs. row hs (row_homes (zip_with homes_of (each_of rest) ds))) (columns_back homes)
    ∙ ap (λ rs. row homes rs) (rows_same g homes_of each rest ds (All-tail (λ x. IsOf x (Domain.relation g)) d ds fits) s.1)

length-columns_of : (homes : ColumnHomes) (g : Heading) (k : ℕ) (rows : List (List Datum)) → AreHomesOf homes g k rows → length (columns_of homes) ≡ length (attributes_of g)
length-columns_of ColumnHomes.no_columns no_attributes k rows s = refl
length-columns_of ColumnHomes.no_columns (attribute n e rest) k rows s = absurd s
length-columns_of (ColumnHomes.column h homes) no_attributes k rows s = absurd s
length-columns_of (ColumnHomes.column h homes) (attribute n e rest) k rows s = let l = length-columns_of homes rest (k + 1) rows s.1 in omega (arith, l)

mutual
  home_same : (e : Domain) (h : Home) (values : List Datum) → IsDomain e → IsHomeOf h e values → All (λ d. IsOf d e) values → restructured_home e e h values ≡ h
  home_same Domain.integer h values whole s fits = refl
  home_same Domain.long h values whole s fits = refl
  home_same Domain.text h values whole s fits = refl
  home_same Domain.bytes h values whole s fits = refl
  home_same (Domain.relation g) no_home values whole s fits = absurd s
  home_same (Domain.relation g) (numbers block) values whole s fits = absurd s
  home_same (Domain.relation g) (strings sizes short memos) values whole s fits = absurd s
  home_same (Domain.relation g) (tables rows) values whole s fits =
      ap tables (rows_same g (λ homes d. homes_under (attributes_of g) g homes (rows_in d))
      (λ homes d fit inside.
      homes_same g (attributes_of g) 0 (columns_of homes) (rows_in d) whole.0.distinct (length-columns_of homes g 0 (rows_in d) inside) refl whole.1 (rows_inside d (Domain.relation g) fit).whole
      (subst (λ hs. AreHomesOf hs g 0 (rows_in d)) (sym (columns_back homes)) inside))
      rows values fits s)

  -- the homes of the properties from a place on are those from there on
  homes_same : (g : Heading) (schema : List Attribute) (k : ℕ) (homes : List Home) (rows : List (List Datum)) → HaveDistinctNames schema → length homes ≡ length schema → drop k schema ≡ attributes_of g → AreAttributes g
      → All (λ r. IsRowOf r schema) rows → AreHomesOf (column_homes (drop k homes)) g k rows → homes_under schema g homes rows ≡ drop k homes
  homes_same no_attributes schema k homes rows distinct long e whole fits s = drop_none schema homes k (sym long) e
  homes_same (attribute n e rest) schema k homes rows distinct long at whole fits s =
      let a : Attribute = record { name = n; domain = e } in
      let found = drop_at schema k a (attributes_of rest) no_attribute at in
      let p = found.within in
      let named : (get_or schema k no_attribute).name ≡ n = ap (λ (b : Attribute). b.name) found.here in
      let domain : domain_at schema k ≡ e = ap (λ (b : Attribute). b.domain) found.here in
      let place = find_at schema k n distinct p named in
      let held = get_or homes k no_home in
      let split : drop k homes ≡ held ∷ drop (k + 1) homes = drop_next homes k no_home (omega (arith, long)) in
      let shape : AreHomesOf (column_homes (held ∷ drop (k + 1) homes)) (attribute n e rest) k rows = subst (λ hs. AreHomesOf (column_homes hs) (attribute n e rest) k rows) split s in
      let column : All (λ d. IsOf d e) (column_of rows k) = subst (λ x. All (λ d. IsOf d x) (column_of rows k)) domain (column_fits schema k p rows fits) in
      let home : home_under schema (find schema n) e homes rows ≡ held =
      ap (λ o. home_under schema o e homes rows) place ∙ ap (λ x. restructured_home x e held (column_of rows k)) domain ∙ home_same e held (column_of rows k) whole.1 shape.0 column in
      ap (λ h. h ∷ homes_under schema rest homes rows) home
      ∙ ap (λ hs. held ∷ hs) (homes_same rest schema (k + 1) homes rows distinct long found.next whole.2 fits shape.1)
      ∙ sym split

-- a whole table under its own schema is as it was
pub restructured-same : (t : StoredTable) (new : List Attribute) → IsTable t → HasHomes t → t.schema ≡ new → restructured t new ≡ t
restructured-same t new whole shape same =
    let rows : restructured_rows t.schema t.schema t.rows ≡ t.rows = rows_kept t.schema t.rows whole.schema whole.rows in
    let homes : homes_under t.schema (heading_of t.schema) t.homes t.rows ≡ t.homes =
    homes_same (heading_of t.schema) t.schema 0 t.homes t.rows whole.schema.limits.distinct (homes_paired t shape) (sym (attributes_of-heading_of t.schema)) (AreAttributes-heading_of t.schema whole.schema.attributes) whole.rows.whole shape in
    ap (λ s. restructured t s) (sym same)
    ∙ ap (λ rs. let u : StoredTable = record { schema = t.schema; rows = rs; homes = homes_under t.schema (heading_of t.schema) t.homes t.rows } in u) rows
    ∙ ap (λ hs. let u : StoredTable = record { schema = t.schema; rows = t.rows; homes = hs } in u) homes
