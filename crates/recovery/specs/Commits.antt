-- A commit: what a file keeps of the views, and where each block of it stands.
use Rattle.std.specs.Prelude.{◌≢◌, ℕ, ◌+◌, ◌^◌, ◌<◌, List, [], ◌∷◌, ◌++◌, length, map, drop, slice_index_or, pos, All}
use Rattle.std.specs.List.{flat_map}
use Rattle.mk_value.specs.declared.span.Span.{Span}
use Rattle.mk_value.specs.Heading.{Domain, Heading, attribute, heading_of}
use Rattle.mk_value.specs.Data.{Datum, integer}
use Rattle.mk_value.specs.Tables.{number_in}
use Rattle.bit_pack.specs.declared.widths.Width.TheVariants.{W0}
use Rattle.bit_pack.specs.Width.{least_width}
use Rattle.bytes_col.specs.Strings.{sizes_of, memo_rows}
use Rattle.free_space.specs.Extents.{AreApart}
use Rattle.free_space.specs.Sites.{no_span}
use Rattle.commit_marks.specs.declared.mark.Mark.{Mark}
use Rattle.commit_marks.specs.Marks.{FitsFile}
use Rattle.commit_writes.specs.Blocks.{Block, IsSited, spans_of}
use Rattle.commit_writes.specs.Footprints.{Footprint}
use Rattle.dir_codec.specs.declared.dir.Memo.{Memo}
use Rattle.dir_codec.specs.Dir.{AreNotes, Bodies, no_bodies, body, Dir, Entries, no_entries, entry, Entry, NoteEntry, ViewEntry, spelled}
use Rattle.tables.specs.Homes.{Home, no_home, numbers, strings, tables, PlainColumn, ColumnHomes, column, RowHomes, no_rows, row, column_homes, column_of, rows_in}
use Rattle.tables.specs.Shapes.{HasHomes, bytes_in}
use Rattle.tables.specs.Blocks.{blocks_of_values, plain_columns}
use Rattle.tables.specs.Rests.{blocks_of}
use Rattle.view_store.specs.Views.{AreViews, NamedTable}

-- its number, its views with a home in each column, its notes, the span of its directory, and the end of the file's used part
pub record Commit : Type 0 where
  pub number : ℕ
  pub views : List NamedTable
  pub notes : List NoteEntry
  pub dir : Span
  pub end : ℕ

-- each memo's row, and where it stands
abbrev pub memos_at : List ℕ → List Span → List Memo
memos_at (r ∷ rest) (span ∷ spans) = record { row = r; span = span } ∷ memos_at rest spans
memos_at _ _ = []

abbrev pub strings_entry : List (List ℕ) → Span → Span → List Span → Entry
strings_entry values sizes short memos =
    Entry.strings (least_width (sizes_of values)) sizes short (memos_at (memo_rows values) memos)

-- What a directory has of a column of a domain with these values and this home, of the tables in the rows of a view column, and of the
-- columns of a table from the place k on.
abbrev mutual
  pub entry_of : Home → Domain → List Datum → Entry
  entry_of (tables rows) (Domain.relation h) values = Entry.tables (bodies_of rows h values)
  entry_of (numbers block) e values = Entry.numbers (least_width (map number_in values)) block
  entry_of (strings sizes short memos) e values = strings_entry (map bytes_in values) sizes short memos
  entry_of _ e values = Entry.numbers W0 no_span

  pub bodies_of : RowHomes → Heading → List Datum → Bodies
  bodies_of no_rows h values = no_bodies
  bodies_of (row homes rest) h values =
      let rows = rows_in (slice_index_or values 0 (integer (pos 0))) in
      body (length rows) (entries_of homes h 0 rows) (bodies_of rest h (drop 1 values))

  pub entries_of : ColumnHomes → Heading → ℕ → List (List Datum) → Entries
  entries_of (column home rest) (attribute n e others) k rows = entry (entry_of home e (column_of rows k)) (entries_of rest others (k + 1) rows)
  entries_of _ _ k rows = no_entries

abbrev pub view_entry : NamedTable → ViewEntry
view_entry v = record {
  name = v.name;
  schema = v.table.schema;
  rows = length v.table.rows;
  columns = entries_of (column_homes v.table.homes) (heading_of v.table.schema) 0 v.table.rows;
}

-- the directory of views with a home in each column, and of notes
abbrev pub directory : List NamedTable → List NoteEntry → Dir
directory views notes = record { views = map view_entry views; notes = notes }

-- blocks, from their spans and their bytes
abbrev pub blocks_at : List Span → List (List ℕ) → List Block
blocks_at (span ∷ spans) (bytes ∷ rest) = record { span = span; bytes = bytes } ∷ blocks_at spans rest
blocks_at _ _ = []

abbrev pub column_blocks : PlainColumn → List Block
column_blocks c = blocks_at (blocks_of c.home) (blocks_of_values c.domain c.values)

-- the plain columns of all views, in the order of a directory
abbrev pub plain_views : List NamedTable → List PlainColumn
plain_views views = flat_map (λ v. plain_columns v.table) views

-- the block of the directory
abbrev pub dir_block : Commit → Block
dir_block c = record { span = c.dir; bytes = spelled (directory c.views c.notes) }

-- all blocks of a commit: those of its columns, and its directory last
abbrev pub commit_blocks : Commit → List Block
commit_blocks c = flat_map column_blocks (plain_views c.views) ++ dir_block c ∷ []

-- a mark has version 2 where there are notes
abbrev pub version_of : List NoteEntry → ℕ
version_of [] = 1
version_of (note ∷ notes) = 2

abbrev pub mark_of : Commit → Mark
mark_of c = record { version = version_of c.notes; number = c.number; place = c.dir.place; len = c.dir.len; end = c.end }

-- what the commit has in a file
abbrev pub footprint_of : Commit → Footprint
footprint_of c = record { mark = mark_of c; blocks = commit_blocks c }

-- the column has a home
abbrev pub IsHomed : PlainColumn → Type 0
IsHomed c = c.home ≢ no_home

-- A whole commit: whole views, each plain column of which has a home of its shape; notes as a directory may have them; each block in its
-- place below the end, and no two extents that meet.
pub record IsCommit (c : Commit) : Type 0 where
  pub number : c.number < 2 ^ 63
  pub views : AreViews c.views
  pub shaped : All (λ v. HasHomes v.table) c.views
  pub homed : All IsHomed (plain_views c.views)
  pub notes : AreNotes (version_of c.notes) c.number c.notes
  pub fits : FitsFile c.end (mark_of c)
  pub end_fits : c.end < 2 ^ 64
  pub sited : All (IsSited c.end) (commit_blocks c)
  pub apart : AreApart (spans_of (commit_blocks c))
