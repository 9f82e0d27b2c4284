-- Columns and tables in memory that a directory has in an image.
use Rattle.std.specs.Prelude.{◌≡◌, ◌≢◌, ℕ, ◌<◌, ◌≤◌, ◌^◌, List, [], ◌∷◌, length, All, AllPairs}
use Rattle.std.specs.List.{AllZip}
use Rattle.mk_value.specs.Limits.{max_views}
use Rattle.mk_value.specs.Heading.{Attribute, Domain, heading_of}
use Rattle.commit_writes.specs.Blocks.{Block, StandsAt}
use Rattle.dir_codec.specs.Columns.{PlainEntry, plain_bodies, plain_entries, plain_entry}
use Rattle.dir_codec.specs.Dir.{Body, Entries, Entry, IsViewEntry, ViewEntry, bodies_from, entries_from}
use Rattle.tables.specs.Blocks.{plain_columns, plain_in}
use Rattle.tables.specs.Columns.{StoredColumn, column_values, home_of, IsTableOf}
use Rattle.tables.specs.Homes.{PlainColumn, column_homes}
use Rattle.tables.specs.Tables.{StoredTable}
use Rattle.view_store.specs.Views.{NamedTable}
use Rattle.recovery.specs.Commits.{IsHomed, column_blocks, entries_of, entry_of}
use Rattle.recovery.specs.Reading.{IsFirstUnreadable, IsReadable}
use Rattle.recovery.specs.declared.error.ColumnsError.{ColumnsError}
use Rattle.recovery.specs.declared.error.ColumnsError.TheVariants.{At, Failed, Memory}
use Rattle.recovery.specs.declared.error.ReadError.{ReadError}
use Rattle.recovery.specs.declared.error.ReadError.TheVariants as read_error

-- what a directory has of its columns ends below 2^64, and within so many bytes where that is known
pub record EndsWithin (known : Type 0) (len : ℕ) (HasEnd : ℕ → Type 0) : Type 0 where
  pub end : ℕ
  pub small : end < 2 ^ 64
  pub within : known → end ≤ len
  pub has : HasEnd end

-- What is found is told of any property of blocks: that they stand in an image, or, where nothing is known of that, that each is as
-- long as its span.
abbrev pub HasLength : Block → Type 0
HasLength b = b.span.len ≡ length b.bytes

-- a plain column has a home, and each of its blocks has the property
pub record IsFound (P : Block → Type 0) (c : PlainColumn) : Type 0 where
  pub homed : IsHomed c
  pub blocks : All P (column_blocks c)

-- the column of the domain is the one of which a directory has this entry
pub record IsColumnFound (P : Block → Type 0) (e : Domain) (own : Entry) (c : StoredColumn) : Type 0 where
  pub entry : own ≡ entry_of (home_of c) e (column_values e c)
  pub found : All (IsFound P) (plain_in (home_of c) e (column_values e c))

-- the columns of these properties are those of which a directory has these entries
abbrev pub AreColumnsFound : (Block → Type 0) → List Attribute → List Entry → List StoredColumn → Type 0
AreColumnsFound P [] [] [] = Unit {0}
AreColumnsFound P (a ∷ schema) (e ∷ entries) (c ∷ cols) = IsColumnFound P a.domain e c × AreColumnsFound P schema entries cols
AreColumnsFound P _ _ _ = ⊥

-- the table is the one of whose columns a directory has these entries
pub record IsTableFound (P : Block → Type 0) (own : Entries) (t : StoredTable) : Type 0 where
  pub entries : own ≡ entries_of (column_homes t.homes) (heading_of t.schema) 0 t.rows
  pub found : All (IsFound P) (plain_columns t)

-- a whole table of this schema and so many rows
pub record HasForm (schema : List Attribute) (rows : ℕ) (t : StoredTable) : Type 0 where
  pub table : IsTableOf schema t
  pub count : length t.rows ≡ rows

-- the tables of one schema of which a directory has these bodies
abbrev pub AreFormed : List Attribute → List Body → List StoredTable → Type 0
AreFormed schema bodies ts = AllZip (λ b t. HasForm schema b.rows t) bodies ts

abbrev pub AreTablesFound : (Block → Type 0) → List Body → List StoredTable → Type 0
AreTablesFound P bodies ts = AllZip (λ b t. IsTableFound P (entries_from b.columns) t) bodies ts

-- What is read of an entry of which the first byte is at this offset: its column, and all its plain columns are readable. The same of
-- the columns of a table, of the tables in a view column, and of a table.
pub record IsColumnRead (image : List ℕ) (e : Domain) (own : Entry) (rows at : ℕ) (c : StoredColumn) : Type 0 where
  pub column : IsColumnFound (StandsAt image) e own c
  pub readable : All (IsReadable image) (plain_entry own e at rows)

pub record AreColumnsRead (image : List ℕ) (schema : List Attribute) (own : List Entry) (rows at : ℕ) (cols : List StoredColumn) : Type 0 where
  pub columns : AreColumnsFound (StandsAt image) schema own cols
  pub readable : All (IsReadable image) (plain_entries (entries_from own) (heading_of schema) at rows)

pub record AreTablesRead (image : List ℕ) (schema : List Attribute) (own : List Body) (at : ℕ) (ts : List StoredTable) : Type 0 where
  pub tables : AreTablesFound (StandsAt image) own ts
  pub readable : All (IsReadable image) (plain_bodies (bodies_from own) (heading_of schema) at)

pub record IsTableRead (image : List ℕ) (schema : List Attribute) (own : List Entry) (rows at : ℕ) (t : StoredTable) : Type 0 where
  pub table : IsTableFound (StandsAt image) (entries_from own) t
  pub readable : All (IsReadable image) (plain_entries (entries_from own) (heading_of schema) at rows)

-- the views of a directory, as a mark may have them with this end
pub record AreEntriesOfViews (end : ℕ) (entries : List ViewEntry) : Type 0 where
  pub few : length entries ≤ max_views
  pub distinct : AllPairs (λ v w. v.name ≢ w.name) entries
  pub each : All (IsViewEntry end) entries

-- a view of the name, the schema and the row count that a directory has
pub record IsViewFormed (own : ViewEntry) (v : NamedTable) : Type 0 where
  pub name : v.name ≡ own.name
  pub form : HasForm own.schema own.rows v.table

abbrev pub AreViewsFormed : List ViewEntry → List NamedTable → Type 0
AreViewsFormed own views = AllZip IsViewFormed own views

-- the tables of the views are those of whose columns a directory has these entries
abbrev pub AreViewsFound : (Block → Type 0) → List ViewEntry → List NamedTable → Type 0
AreViewsFound P own views = AllZip (λ e v. IsTableFound P e.columns v.table) own views

-- the offset is that of the first of these columns whose blocks are those of no values
abbrev pub IsUnreadableAt : List ℕ → List PlainEntry → ℕ → Type 0
IsUnreadableAt image entries offset = (e : PlainEntry) × IsFirstUnreadable image entries e × (offset ≡ e.start)

-- an offset that is named is that of the first unreadable one of these columns
abbrev pub NamesUnreadable : List ℕ → List PlainEntry → ColumnsError → Type 0
NamesUnreadable image entries (At offset) = IsUnreadableAt image entries offset
NamesUnreadable image entries _ = Unit {0}

-- why columns are not read, where the one at this offset is not
abbrev pub located : ℕ → ReadError → ColumnsError
located at read_error.Unreadable = At at
located at read_error.Failed = Failed
located at read_error.Memory = Memory
