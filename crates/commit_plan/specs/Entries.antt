-- What a directory has of tables, by what is kept in each column.
use Rattle.std.specs.Prelude.{◌≡◌, List, [], ◌∷◌, length, None, Some, Option}
use Rattle.mk_value.specs.declared.span.Span.{Span}
use Rattle.mk_value.specs.Heading.{heading_of}
use Rattle.bit_pack.specs.declared.widths.Width.TheVariants.{W0}
use Rattle.bit_pack.specs.Width.{least_width}
use Rattle.free_space.specs.Sites.{no_span}
use Rattle.bytes_col.specs.declared.home.BytesHome.{BytesHome}
use Rattle.int_col.specs.Numbers.{Numbers}
use Rattle.bytes_col.specs.Strings.{Strings}
use Rattle.dir_codec.specs.Dir.{Bodies, Body, Entries, Entry, body, no_bodies, entries_from}
use Rattle.tables.specs.Homes.{column_homes}
use Rattle.tables.specs.Tables.{StoredTable}
use Rattle.tables.specs.Columns.{StoredColumn, integers, texts, views}
use Rattle.recovery.specs.Commits.{entries_of, strings_entry}

abbrev pub table_entries : StoredTable → Entries
table_entries t = entries_of (column_homes t.homes) (heading_of t.schema) 0 t.rows

abbrev pub table_bodies : List StoredTable → Bodies
table_bodies [] = no_bodies
table_bodies (t ∷ ts) = body (length t.rows) (table_entries t) (table_bodies ts)

-- a column without a home has no block
abbrev pub no_entry : Entry
no_entry = Entry.numbers W0 no_span

abbrev pub numbers_entry : Numbers → Option Span → Entry
numbers_entry c None = no_entry
numbers_entry c (Some block) = Entry.numbers (least_width c.values) block

abbrev pub texts_entry : Strings → Option BytesHome → Entry
texts_entry c None = no_entry
texts_entry c (Some home) = strings_entry c.values home.sizes home.short home.memos

abbrev pub stored_entry : StoredColumn → Entry
stored_entry (integers c) = numbers_entry c c.home
stored_entry (texts c) = texts_entry c c.home
stored_entry (views ts) = Entry.tables (table_bodies ts)

-- what a directory has of a table
pub record IsBodyOf (t : StoredTable) (b : Body) : Type 0 where
  pub rows : b.rows ≡ length t.rows
  pub columns : entries_from b.columns ≡ table_entries t
