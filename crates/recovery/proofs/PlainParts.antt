-- The plain columns of a whole commit: their values fit, and a directory has their homes.
use Rattle.std.proofs.Common.{◌≡◌, ◌≢◌, ℕ, ◌+◌, List, [], ◌∷◌, ◌++◌, length, map, All, refl, ap, sym, ◌∙◌, arith}
use Rattle.std.specs.List.{AllZip, flat_map}
use Rattle.std.proofs.lemmas.List.{map-append}
use Rattle.std.proofs.lemmas.List.Elements.{All-head, All-tail, All-cons, All-nil, All-append}
use Rattle.mk_value.specs.declared.span.Span.{Span}
use Rattle.mk_value.specs.Heading.{Domain, Heading, no_attributes, attribute, attributes_of, heading_of}
use Rattle.mk_value.specs.Data.{Datum, IsOf, AreRowsOf}
use Rattle.mk_value.specs.Tables.{IsPlainDomain}
use Rattle.mk_value.proofs.Headings.{attributes_of-heading_of}
use Rattle.bytes_col.specs.Strings.{long_values, memo_rows}
use Rattle.commit_writes.specs.Blocks.{Block, spans_of}
use Rattle.dir_codec.specs.Columns.{PlainEntry}
use Rattle.tables.specs.Homes.{Home, no_home, numbers, strings, tables, PlainColumn, ColumnHomes, no_columns, column, column_homes, RowHomes, no_rows, row, column_of, rows_in}
use Rattle.tables.specs.Shapes.{AreHomesOf, AreRowHomesOf, HasHomes, IsHomeOf, bytes_in}
use Rattle.tables.specs.Rests.{blocks, blocks_of}
use Rattle.tables.specs.Blocks.{blocks_of_values, plain_columns, plain_from, plain_in, plain_rows}
use Rattle.tables.proofs.Values.{rows_inside}
use Rattle.view_store.specs.Views.{IsView, NamedTable}
use Rattle.recovery.specs.Commits.{IsHomed, blocks_at, column_blocks, entry_of, memos_at, plain_views}
use Rattle.recovery.specs.Reading.{home_in, spans_in}
use Rattle.recovery.proofs.Directories.{ColumnsFit, columns_fit}
use Rattle.recovery.proofs.EntriesOf.{IsEntryOf}
use Rattle.recovery.proofs.Memos.{memo_rows-from, rows_long}

-- a column of a plain domain, with a home of its shape and values that fit
pub record IsPlainPart (c : PlainColumn) : Type 0 where
  pub kind : IsPlainDomain c.domain
  pub shaped : IsHomeOf c.home c.domain c.values
  pub fit : All (λ d. IsOf d c.domain) c.values

one_part : (c : PlainColumn) → IsPlainPart c → All IsPlainPart (c ∷ [])
one_part c h = All-cons IsPlainPart c [] h (All-nil IsPlainPart)

mutual
  parts_in : (h : Home) (e : Domain) (values : List Datum) → IsHomeOf h e values → All (λ d. IsOf d e) values → All IsPlainPart (plain_in h e values)
  parts_in (tables rows) (Domain.relation g) values s fit = parts_rows rows g values s fit
  parts_in (tables rows) Domain.integer values s fit = absurd s
  parts_in (tables rows) Domain.long values s fit = absurd s
  parts_in (tables rows) Domain.text values s fit = absurd s
  parts_in (tables rows) Domain.bytes values s fit = absurd s
  parts_in no_home (Domain.relation g) values s fit = absurd s
  parts_in no_home Domain.integer values s fit = one_part _ (record { kind = tt; shaped = s; fit = fit })
  parts_in no_home Domain.long values s fit = one_part _ (record { kind = tt; shaped = s; fit = fit })
  parts_in no_home Domain.text values s fit = one_part _ (record { kind = tt; shaped = s; fit = fit })
  parts_in no_home Domain.bytes values s fit = one_part _ (record { kind = tt; shaped = s; fit = fit })
  parts_in (numbers block) (Domain.relation g) values s fit = absurd s
  parts_in (numbers block) Domain.integer values s fit = one_part _ (record { kind = tt; shaped = s; fit = fit })
  parts_in (numbers block) Domain.long values s fit = one_part _ (record { kind = tt; shaped = s; fit = fit })
  parts_in (numbers block) Domain.text values s fit = absurd s
  parts_in (numbers block) Domain.bytes values s fit = absurd s
  parts_in (strings sizes short memos) (Domain.relation g) values s fit = absurd s
  parts_in (strings sizes short memos) Domain.integer values s fit = absurd s
  parts_in (strings sizes short memos) Domain.long values s fit = absurd s
  parts_in (strings sizes short memos) Domain.text values s fit = one_part _ (record { kind = tt; shaped = s; fit = fit })
  parts_in (strings sizes short memos) Domain.bytes values s fit = one_part _ (record { kind = tt; shaped = s; fit = fit })

  parts_rows : (rows : RowHomes) (g : Heading) (values : List Datum) → AreRowHomesOf rows g values → All (λ d. IsOf d (Domain.relation g)) values → All IsPlainPart (plain_rows rows g values)
  parts_rows no_rows g values s fit = All-nil IsPlainPart
  parts_rows (row homes rest) g [] s fit = absurd s
  parts_rows (row homes rest) g (d ∷ values) s fit =
      let inside : AreRowsOf (rows_in d) (attributes_of g) = rows_inside d (Domain.relation g) (All-head (λ d. IsOf d (Domain.relation g)) d values fit) in
      All-append IsPlainPart (plain_from homes g 0 (rows_in d)) (plain_rows rest g values)
      (parts_from homes g 0 (rows_in d) s.0 (columns_fit g (attributes_of g) 0 (rows_in d) refl inside.whole))
      (parts_rows rest g values s.1 (All-tail (λ d. IsOf d (Domain.relation g)) d values fit))

  parts_from : (homes : ColumnHomes) (g : Heading) (k : ℕ) (rows : List (List Datum)) → AreHomesOf homes g k rows → ColumnsFit g k rows → All IsPlainPart (plain_from homes g k rows)
  parts_from no_columns no_attributes k rows s fit = All-nil IsPlainPart
  parts_from no_columns (attribute n e others) k rows s fit = absurd s
  parts_from (column h rest) no_attributes k rows s fit = absurd s
  parts_from (column h rest) (attribute n e others) k rows s fit =
      All-append IsPlainPart (plain_in h e (column_of rows k)) (plain_from rest others (k + 1) rows) (parts_in h e (column_of rows k) s.0 fit.0) (parts_from rest others (k + 1) rows s.1 fit.1)

pub views_parts : (views : List NamedTable) → All IsView views → All (λ v. HasHomes v.table) views → All IsPlainPart (plain_views views)
views_parts [] is h = All-nil IsPlainPart
views_parts (v ∷ views) is h =
    All-append IsPlainPart (plain_columns v.table) (plain_views views)
    (parts_from (column_homes v.table.homes) (heading_of v.table.schema) 0 v.table.rows (All-head (λ v. HasHomes v.table) v views h)
    (columns_fit (heading_of v.table.schema) v.table.schema 0 v.table.rows (sym (attributes_of-heading_of v.table.schema)) (All-head IsView v views is).table.rows.whole))
    (views_parts views (All-tail IsView v views is) (All-tail (λ v. HasHomes v.table) v views h))

memo_spans : (rs : List ℕ) (spans : List Span) → length rs ≡ length spans → map (λ m. m.span) (memos_at rs spans) ≡ spans
memo_spans [] [] e = refl
memo_spans [] (s ∷ spans) e = absurd (omega (arith, e))
memo_spans (r ∷ rs) [] e = absurd (omega (arith, e))
memo_spans (r ∷ rs) (s ∷ spans) e = ap (λ ss. s ∷ ss) (memo_spans rs spans (omega (arith, e)))

its_memos : (values : List (List ℕ)) (memos : List Span) → length memos ≡ length (long_values values) → map (λ m. m.span) (memos_at (memo_rows values) memos) ≡ memos
its_memos values memos e = memo_spans (memo_rows values) memos (ap length (memo_rows-from values) ∙ rows_long 0 values ∙ sym e)

-- the entry of a column that has a home gives its home and its spans
pub home_back : (h : Home) (e : Domain) (values : List Datum) → IsPlainDomain e → IsHomeOf h e values → h ≢ no_home → home_in (entry_of h e values) ≡ h
home_back h (Domain.relation g) values kind s ne = absurd kind
home_back no_home e values kind s ne = absurd (ne refl)
home_back (tables rows) Domain.integer values kind s ne = absurd s
home_back (tables rows) Domain.long values kind s ne = absurd s
home_back (tables rows) Domain.text values kind s ne = absurd s
home_back (tables rows) Domain.bytes values kind s ne = absurd s
home_back (numbers block) Domain.integer values kind s ne = refl
home_back (numbers block) Domain.long values kind s ne = refl
home_back (numbers block) Domain.text values kind s ne = absurd s
home_back (numbers block) Domain.bytes values kind s ne = absurd s
home_back (strings sizes short memos) Domain.integer values kind s ne = absurd s
home_back (strings sizes short memos) Domain.long values kind s ne = absurd s
home_back (strings sizes short memos) Domain.text values kind s ne = ap (λ ms. strings sizes short ms) (its_memos (map bytes_in values) memos s)
home_back (strings sizes short memos) Domain.bytes values kind s ne = ap (λ ms. strings sizes short ms) (its_memos (map bytes_in values) memos s)

pub spans_back : (h : Home) (e : Domain) (values : List Datum) → IsPlainDomain e → IsHomeOf h e values → h ≢ no_home → spans_in (entry_of h e values) ≡ blocks_of h
spans_back h (Domain.relation g) values kind s ne = absurd kind
spans_back no_home e values kind s ne = absurd (ne refl)
spans_back (tables rows) Domain.integer values kind s ne = absurd s
spans_back (tables rows) Domain.long values kind s ne = absurd s
spans_back (tables rows) Domain.text values kind s ne = absurd s
spans_back (tables rows) Domain.bytes values kind s ne = absurd s
spans_back (numbers block) Domain.integer values kind s ne = refl
spans_back (numbers block) Domain.long values kind s ne = refl
spans_back (numbers block) Domain.text values kind s ne = absurd s
spans_back (numbers block) Domain.bytes values kind s ne = absurd s
spans_back (strings sizes short memos) Domain.integer values kind s ne = absurd s
spans_back (strings sizes short memos) Domain.long values kind s ne = absurd s
spans_back (strings sizes short memos) Domain.text values kind s ne = ap (λ ms. sizes ∷ short ∷ ms) (its_memos (map bytes_in values) memos s)
spans_back (strings sizes short memos) Domain.bytes values kind s ne = ap (λ ms. sizes ∷ short ∷ ms) (its_memos (map bytes_in values) memos s)

-- all spans of the plain columns of a directory are those of their homes
pub all_spans_back : (columns : List PlainColumn) (entries : List PlainEntry) → All IsPlainPart columns → All IsHomed columns → AllZip IsEntryOf columns entries → flat_map (λ e. spans_in e.entry) entries ≡ blocks columns
all_spans_back [] [] parts homed zip = refl
all_spans_back [] (e ∷ entries) parts homed zip = absurd zip
all_spans_back (c ∷ columns) [] parts homed zip = absurd zip
all_spans_back (c ∷ columns) (e ∷ entries) parts homed zip =
    let part = All-head IsPlainPart c columns parts in
    ap (λ x. spans_in x ++ flat_map (λ e. spans_in e.entry) entries) zip.0.entry
    ∙ ap (λ ss. ss ++ flat_map (λ e. spans_in e.entry) entries) (spans_back c.home c.domain c.values part.kind part.shaped (All-head IsHomed c columns homed))
    ∙ ap (λ ss. blocks_of c.home ++ ss) (all_spans_back columns entries (All-tail IsPlainPart c columns parts) (All-tail IsHomed c columns homed) zip.1)

-- blocks have the spans that they were given
pub spans_of-blocks_at : (spans : List Span) (bytes : List (List ℕ)) → length spans ≡ length bytes → spans_of (blocks_at spans bytes) ≡ spans
spans_of-blocks_at [] bytes e = refl
spans_of-blocks_at (s ∷ spans) [] e = absurd (omega (arith, e))
spans_of-blocks_at (s ∷ spans) (b ∷ bytes) e = ap (λ rest. s ∷ rest) (spans_of-blocks_at spans bytes (omega (arith, e)))

pub blocks_at-append : (one two : List Span) (bytes more : List (List ℕ)) → length one ≡ length bytes → blocks_at (one ++ two) (bytes ++ more) ≡ blocks_at one bytes ++ blocks_at two more
blocks_at-append [] two [] more e = refl
blocks_at-append [] two (b ∷ bytes) more e = absurd (omega (arith, e))
blocks_at-append (s ∷ one) two [] more e = absurd (omega (arith, e))
blocks_at-append (s ∷ one) two (b ∷ bytes) more e =
    ap (λ rest. (let x : Block = record { span = s; bytes = b } in x) ∷ rest) (blocks_at-append one two bytes more (omega (arith, e)))

spans_are : (h : Home) (e : Domain) (values : List Datum) → IsPlainDomain e → IsHomeOf h e values → spans_of (blocks_at (blocks_of h) (blocks_of_values e values)) ≡ blocks_of h
spans_are no_home e values kind s = refl
spans_are (tables rows) e values kind s = refl
spans_are (numbers block) Domain.integer values kind s = refl
spans_are (numbers block) Domain.long values kind s = refl
spans_are (numbers block) Domain.text values kind s = absurd s
spans_are (numbers block) Domain.bytes values kind s = absurd s
spans_are (numbers block) (Domain.relation g) values kind s = absurd s
spans_are (strings sizes short memos) Domain.integer values kind s = absurd s
spans_are (strings sizes short memos) Domain.long values kind s = absurd s
spans_are (strings sizes short memos) Domain.text values kind s = ap (λ rest. sizes ∷ short ∷ rest) (spans_of-blocks_at memos _ s)
spans_are (strings sizes short memos) Domain.bytes values kind s = ap (λ rest. sizes ∷ short ∷ rest) (spans_of-blocks_at memos _ s)
spans_are (strings sizes short memos) (Domain.relation g) values kind s = absurd s

pub column_spans : (c : PlainColumn) → IsPlainPart c → spans_of (column_blocks c) ≡ blocks_of c.home
column_spans c h = spans_are c.home c.domain c.values h.kind h.shaped

pub columns_spans : (columns : List PlainColumn) → All IsPlainPart columns → spans_of (flat_map column_blocks columns) ≡ blocks columns
columns_spans [] h = refl
columns_spans (c ∷ columns) h =
    map-append (λ b. b.span) (column_blocks c) (flat_map column_blocks columns)
    ∙ ap (λ spans. spans ++ spans_of (flat_map column_blocks columns)) (column_spans c (All-head IsPlainPart c columns h))
    ∙ ap (λ spans. blocks_of c.home ++ spans) (columns_spans columns (All-tail IsPlainPart c columns h))
