-- The plain columns of the directory of views are those of the views, in order.
use Rattle.std.proofs.Common.{◌≡◌, ℕ, ◌+◌, List, [], ◌∷◌, ◌++◌, length, get_or, map, All, pos, refl, sym}
use Rattle.std.specs.List.{AllZip}
use Rattle.std.proofs.lemmas.List.{length-map}
use Rattle.std.proofs.lemmas.List.Elements.{All-head, All-tail}
use Rattle.mk_value.specs.Heading.{Domain, Heading, no_attributes, attribute, heading_of}
use Rattle.mk_value.specs.Data.{Datum, integer}
use Rattle.struct_text.specs.Spelling.{spelling}
use Rattle.dir_codec.specs.Dir.{NoteEntry, spelled_entries, spelled_entry, spelled_view}
use Rattle.dir_codec.specs.Columns.{PlainEntry, dir_columns, plain_bodies, plain_entries, plain_entry, plain_view_entries}
use Rattle.tables.specs.Homes.{Home, no_home, numbers, strings, tables, PlainColumn, ColumnHomes, no_columns, column, column_homes, RowHomes, no_rows, row, column_of, rows_in}
use Rattle.tables.specs.Shapes.{AreHomesOf, AreRowHomesOf, HasHomes, IsHomeOf}
use Rattle.tables.specs.Blocks.{plain_columns, plain_from, plain_in, plain_rows}
use Rattle.view_store.specs.Views.{NamedTable}
use Rattle.recovery.specs.Commits.{bodies_of, directory, entries_of, entry_of, plain_views, view_entry}

-- what a directory has of a plain column
pub record IsEntryOf (c : PlainColumn) (e : PlainEntry) : Type 0 where
  pub domain : e.domain ≡ c.domain
  pub rows : e.rows ≡ length c.values
  pub entry : e.entry ≡ entry_of c.home c.domain c.values

pub zip-append : {X Y : Type 0} (R : X → Y → Type 0) (xs us : List X) (ys vs : List Y) → AllZip R xs ys → AllZip R us vs → AllZip R (xs ++ us) (ys ++ vs)
zip-append R [] us [] vs h g = g
zip-append R [] us (y ∷ ys) vs h g = absurd h
zip-append R (x ∷ xs) us [] vs h g = absurd h
zip-append R (x ∷ xs) us (y ∷ ys) vs h g = (h.0, zip-append R xs us ys vs h.1 g)

mutual
  entry_columns : (h : Home) (e : Domain) (values : List Datum) (at rows : ℕ) → IsHomeOf h e values → rows ≡ length values → AllZip IsEntryOf (plain_in h e values) (plain_entry (entry_of h e values) e at rows)
  entry_columns no_home Domain.integer values at rows s n = (record { domain = refl; rows = n; entry = refl }, tt)
  entry_columns no_home Domain.long values at rows s n = (record { domain = refl; rows = n; entry = refl }, tt)
  entry_columns no_home Domain.text values at rows s n = (record { domain = refl; rows = n; entry = refl }, tt)
  entry_columns no_home Domain.bytes values at rows s n = (record { domain = refl; rows = n; entry = refl }, tt)
  entry_columns no_home (Domain.relation g) values at rows s n = absurd s
  entry_columns (numbers block) Domain.integer values at rows s n = (record { domain = refl; rows = n; entry = refl }, tt)
  entry_columns (numbers block) Domain.long values at rows s n = (record { domain = refl; rows = n; entry = refl }, tt)
  entry_columns (numbers block) Domain.text values at rows s n = absurd s
  entry_columns (numbers block) Domain.bytes values at rows s n = absurd s
  entry_columns (numbers block) (Domain.relation g) values at rows s n = absurd s
  entry_columns (strings sizes short memos) Domain.integer values at rows s n = absurd s
  entry_columns (strings sizes short memos) Domain.long values at rows s n = absurd s
  entry_columns (strings sizes short memos) Domain.text values at rows s n = (record { domain = refl; rows = n; entry = refl }, tt)
  entry_columns (strings sizes short memos) Domain.bytes values at rows s n = (record { domain = refl; rows = n; entry = refl }, tt)
  entry_columns (strings sizes short memos) (Domain.relation g) values at rows s n = absurd s
  entry_columns (tables rs) Domain.integer values at rows s n = absurd s
  entry_columns (tables rs) Domain.long values at rows s n = absurd s
  entry_columns (tables rs) Domain.text values at rows s n = absurd s
  entry_columns (tables rs) Domain.bytes values at rows s n = absurd s
  entry_columns (tables rs) (Domain.relation g) values at rows s n = rows_columns rs g values at s

  rows_columns : (rows : RowHomes) (g : Heading) (values : List Datum) (at : ℕ) → AreRowHomesOf rows g values → AllZip IsEntryOf (plain_rows rows g values) (plain_bodies (bodies_of rows g values) g at)
  rows_columns no_rows g values at s = tt
  rows_columns (row homes rest) g [] at s = absurd s
  rows_columns (row homes rest) g (d ∷ values) at s =
      zip-append IsEntryOf (plain_from homes g 0 (rows_in d)) (plain_rows rest g values)
      (plain_entries (entries_of homes g 0 (rows_in d)) g (at + 4) (length (rows_in d))) (plain_bodies (bodies_of rest g values) g (at + 4 + length (spelled_entries (entries_of homes g 0 (rows_in d)))))
      (from_columns homes g 0 (rows_in d) (at + 4) s.0)
      (rows_columns rest g values (at + 4 + length (spelled_entries (entries_of homes g 0 (rows_in d)))) s.1)

  from_columns : (homes : ColumnHomes) (g : Heading) (k : ℕ) (rows : List (List Datum)) (at : ℕ) → AreHomesOf homes g k rows → AllZip IsEntryOf (plain_from homes g k rows) (plain_entries (entries_of homes g k rows) g at (length rows))
  from_columns no_columns no_attributes k rows at s = tt
  from_columns no_columns (attribute n e others) k rows at s = absurd s
  from_columns (column h rest) no_attributes k rows at s = absurd s
  from_columns (column h rest) (attribute n e others) k rows at s =
      zip-append IsEntryOf (plain_in h e (column_of rows k)) (plain_from rest others (k + 1) rows)
      (plain_entry (entry_of h e (column_of rows k)) e at (length rows)) (plain_entries (entries_of rest others (k + 1) rows) others (at + length (spelled_entry (entry_of h e (column_of rows k)))) (length rows))
      (entry_columns h e (column_of rows k) at (length rows) s.0 (sym (length-map rows (λ (r : List Datum). get_or r k (integer (pos 0))))))
      (from_columns rest others (k + 1) rows (at + length (spelled_entry (entry_of h e (column_of rows k)))) s.1)

views_columns : (at : ℕ) (views : List NamedTable) → All (λ v. HasHomes v.table) views → AllZip IsEntryOf (plain_views views) (plain_view_entries at (map view_entry views))
views_columns at [] h = tt
views_columns at (v ∷ views) h =
    let from = at + 8 + length (spelling v.name v.table.schema) in
    zip-append IsEntryOf (plain_columns v.table) (plain_views views)
    (plain_entries (view_entry v).columns (heading_of v.table.schema) from (length v.table.rows)) (plain_view_entries (at + length (spelled_view (view_entry v))) (map view_entry views))
    (from_columns (column_homes v.table.homes) (heading_of v.table.schema) 0 v.table.rows from (All-head (λ v. HasHomes v.table) v views h))
    (views_columns (at + length (spelled_view (view_entry v))) views (All-tail (λ v. HasHomes v.table) v views h))

pub directory_columns : (views : List NamedTable) (notes : List NoteEntry) → All (λ v. HasHomes v.table) views → AllZip IsEntryOf (plain_views views) (dir_columns (directory views notes))
directory_columns views notes h = views_columns 4 views h
