-- The columns that have a home are those among the plain columns.
use Rattle.std.proofs.Common.{◌≡◌, ℕ, ◌+◌, List, [], ◌∷◌, ◌++◌, drop, refl, ap, sym, ◌∙◌}
use Rattle.std.specs.List.{filter}
use Rattle.std.proofs.lemmas.List.Elements.{filter-append}
use Rattle.mk_value.specs.Heading.{Domain, Heading, no_attributes, attribute, Attribute, attributes_of, heading_of}
use Rattle.mk_value.specs.Data.{Datum}
use Rattle.mk_value.specs.Tables.{domain_at}
use Rattle.mk_value.proofs.Headings.{attributes_of-heading_of}
use Rattle.tables.specs.Homes.{Home, no_home, numbers, strings, tables, ColumnHomes, no_columns, column, RowHomes, no_rows, row, column_homes, column_of, rows_in}
use Rattle.tables.specs.Tables.{StoredTable}
use Rattle.tables.specs.Rests.{homed_in, homed_rows, homed_from, homed_columns}
use Rattle.tables.specs.Shapes.{IsHomeOf, AreRowHomesOf, AreHomesOf, HasHomes}
use Rattle.tables.specs.Blocks.{is_homed, plain_in, plain_rows, plain_from, plain_columns}
use Rattle.tables.proofs.Lists.{drop_at}

mutual
  pub homed_in-plain : (h : Home) (e : Domain) (values : List Datum) → IsHomeOf h e values → homed_in h e values ≡ filter is_homed (plain_in h e values)
  homed_in-plain no_home Domain.integer values s = refl
  homed_in-plain no_home Domain.long values s = refl
  homed_in-plain no_home Domain.text values s = refl
  homed_in-plain no_home Domain.bytes values s = refl
  homed_in-plain no_home (Domain.relation g) values s = absurd s
  homed_in-plain (numbers block) Domain.integer values s = refl
  homed_in-plain (numbers block) Domain.long values s = refl
  homed_in-plain (numbers block) Domain.text values s = absurd s
  homed_in-plain (numbers block) Domain.bytes values s = absurd s
  homed_in-plain (numbers block) (Domain.relation g) values s = absurd s
  homed_in-plain (strings sizes short memos) Domain.integer values s = absurd s
  homed_in-plain (strings sizes short memos) Domain.long values s = absurd s
  homed_in-plain (strings sizes short memos) Domain.text values s = refl
  homed_in-plain (strings sizes short memos) Domain.bytes values s = refl
  homed_in-plain (strings sizes short memos) (Domain.relation g) values s = absurd s
  homed_in-plain (tables rows) Domain.integer values s = absurd s
  homed_in-plain (tables rows) Domain.long values s = absurd s
  homed_in-plain (tables rows) Domain.text values s = absurd s
  homed_in-plain (tables rows) Domain.bytes values s = absurd s
  homed_in-plain (tables rows) (Domain.relation g) values s = homed_rows-plain rows g values s

  pub homed_rows-plain : (rows : RowHomes) (g : Heading) (values : List Datum) → AreRowHomesOf rows g values → homed_rows rows (Domain.relation g) values ≡ filter is_homed (plain_rows rows g values)
  homed_rows-plain no_rows g [] s = refl
  homed_rows-plain no_rows g (d ∷ values) s = absurd s
  homed_rows-plain (row homes rest) g [] s = absurd s
  homed_rows-plain (row homes rest) g (d ∷ values) s =
      ap (λ cs. cs ++ homed_rows rest (Domain.relation g) values) (homed_from-plain homes (attributes_of g) g 0 (rows_in d) refl s.0)
      ∙ ap (λ cs. filter is_homed (plain_from homes g 0 (rows_in d)) ++ cs) (homed_rows-plain rest g values s.1)
      ∙ sym (filter-append is_homed (plain_from homes g 0 (rows_in d)) (plain_rows rest g values))

  pub homed_from-plain : (homes : ColumnHomes) (schema : List Attribute) (g : Heading) (k : ℕ) (rows : List (List Datum)) → drop k schema ≡ attributes_of g → AreHomesOf homes g k rows
      → homed_from homes schema k rows ≡ filter is_homed (plain_from homes g k rows)
  homed_from-plain no_columns schema no_attributes k rows at s = refl
  homed_from-plain no_columns schema (attribute n e others) k rows at s = absurd s
  homed_from-plain (column h rest) schema no_attributes k rows at s = absurd s
  homed_from-plain (column h rest) schema (attribute n e others) k rows at s =
      let found = drop_at schema k (record { name = n; domain = e }) (attributes_of others) (record { name = []; domain = Domain.integer }) at in
      let domain : domain_at schema k ≡ e = ap (λ (a : Attribute). a.domain) found.here in
      ap (λ d. homed_in h d (column_of rows k) ++ homed_from rest schema (k + 1) rows) domain
      ∙ ap (λ cs. cs ++ homed_from rest schema (k + 1) rows) (homed_in-plain h e (column_of rows k) s.0)
      ∙ ap (λ cs. filter is_homed (plain_in h e (column_of rows k)) ++ cs) (homed_from-plain rest schema others (k + 1) rows found.next s.1)
      ∙ sym (filter-append is_homed (plain_in h e (column_of rows k)) (plain_from rest others (k + 1) rows))

-- a table's homed columns are the plain columns that have a home, in their order
pub homed_columns-plain : (t : StoredTable) → HasHomes t → homed_columns t ≡ filter is_homed (plain_columns t)
homed_columns-plain t s = homed_from-plain (column_homes t.homes) t.schema (heading_of t.schema) 0 t.rows (sym (attributes_of-heading_of t.schema)) s
