-- The directory of a commit: its views, where the blocks of their columns stand, and its notes.
use Rattle.std.specs.Prelude.{◌≡◌, ◌≢◌, ℕ, ◌+◌, ◌<◌, ◌≤◌, ◌⊎◌, List, [], ◌∷◌, ◌++◌, length, All, AllPairs}
use Rattle.std.specs.List.{flat_map}
use Rattle.byteorder.specs.Endian.{little_bytes}
use Rattle.bit_pack.specs.declared.widths.Width.{Width}
use Rattle.bit_pack.specs.Width.{bit_count}
use Rattle.bit_pack.specs.Packed.{packed_len}
use Rattle.mk_value.specs.declared.span.Span.{Span}
use Rattle.mk_value.specs.Limits.{max_bytes, max_rows, max_structure, max_views}
use Rattle.mk_value.specs.Names.{IsName}
use Rattle.mk_value.specs.Heading.{Domain, Heading, no_attributes, attribute, Attribute, heading_of, IsHeading}
use Rattle.mk_value.specs.Data.{IsText}
use Rattle.struct_text.specs.Spelling.{spelling}
use Rattle.free_space.specs.Sites.{IsSite, no_span}
use Rattle.dir_codec.specs.declared.dir.Memo.{Memo}

-- a note of a commit
pub record NoteEntry : Type 0 where
  pub number : ℕ
  pub text : List ℕ

-- What a directory has of a column: of numbers the width and the block; of texts and byte strings the width of the sizes, their block, the
-- short block and the memos; of a view column a body for each row. Columns and bodies are spelled out one by one: the first, and the rest.
mutual
  pub data Entry : Type 0 where
    numbers : Width → Span → Entry
    strings : Width → Span → Span → List Memo → Entry
    tables : Bodies → Entry

  pub data Entries : Type 0 where
    no_entries : Entries
    entry : Entry → Entries → Entries

  -- a body is its row count and its columns
  pub data Bodies : Type 0 where
    no_bodies : Bodies
    body : ℕ → Entries → Bodies → Bodies

-- a table of a view column: its row count and its columns
pub record Body : Type 0 where
  pub rows : ℕ
  pub columns : List Entry

-- columns and tables one by one, from lists
abbrev pub entries_from : List Entry → Entries
entries_from [] = no_entries
entries_from (e ∷ rest) = entry e (entries_from rest)

abbrev pub bodies_from : List Body → Bodies
bodies_from [] = no_bodies
bodies_from (b ∷ rest) = body b.rows (entries_from b.columns) (bodies_from rest)

pub record ViewEntry : Type 0 where
  pub name : List ℕ
  pub schema : List Attribute
  pub rows : ℕ
  pub columns : Entries

pub record Dir : Type 0 where
  pub views : List ViewEntry
  pub notes : List NoteEntry

-- The bytes of a directory.
abbrev pub spelled_span : Span → List ℕ
spelled_span span = little_bytes 8 span.place ++ little_bytes 8 span.len

abbrev pub spelled_memo : Memo → List ℕ
spelled_memo memo = little_bytes 4 memo.row ++ spelled_span memo.span

abbrev mutual
  pub spelled_entry : Entry → List ℕ
  spelled_entry (numbers w block) = bit_count w ∷ spelled_span block
  spelled_entry (strings w sizes short memos) =
      bit_count w ∷ (spelled_span sizes ++ spelled_span short ++ little_bytes 4 (length memos) ++ flat_map spelled_memo memos)
  spelled_entry (tables bodies) = spelled_bodies bodies

  pub spelled_entries : Entries → List ℕ
  spelled_entries no_entries = []
  spelled_entries (entry e rest) = spelled_entry e ++ spelled_entries rest

  pub spelled_bodies : Bodies → List ℕ
  spelled_bodies no_bodies = []
  spelled_bodies (body rows columns rest) = little_bytes 4 rows ++ (spelled_entries columns ++ spelled_bodies rest)

abbrev pub spelled_view : ViewEntry → List ℕ
spelled_view v =
    little_bytes 4 (length (spelling v.name v.schema)) ++ spelling v.name v.schema ++ little_bytes 4 v.rows ++ spelled_entries v.columns

abbrev pub spelled_note : NoteEntry → List ℕ
spelled_note note = little_bytes 8 note.number ++ little_bytes 4 (length note.text) ++ note.text

-- without notes there is nothing behind the views
abbrev pub spelled_notes : List NoteEntry → List ℕ
spelled_notes [] = []
spelled_notes (note ∷ notes) = little_bytes 4 (length (note ∷ notes)) ++ flat_map spelled_note (note ∷ notes)

abbrev pub spelled : Dir → List ℕ
spelled d = little_bytes 4 (length d.views) ++ flat_map spelled_view d.views ++ spelled_notes d.notes

-- the span of a block of any length: a site, or no place
abbrev pub IsSpan : ℕ → Span → Type 0
IsSpan end span = (span ≡ no_span) ⊎ IsSite end span

-- the span of a long value
pub record IsMemoSpan (end : ℕ) (span : Span) : Type 0 where
  pub site : IsSite end span
  pub long : 512 < span.len
  pub few : span.len ≤ max_bytes

-- a memo of a row below so many and from this one on
pub record IsMemo (end rows least : ℕ) (memo : Memo) : Type 0 where
  pub from : least ≤ memo.row
  pub below : memo.row < rows
  pub span : IsMemoSpan end memo.span

-- the memos from this row on, of so many rows
abbrev pub AreMemos : ℕ → ℕ → ℕ → List Memo → Type 0
AreMemos end rows least [] = Unit {0}
AreMemos end rows least (memo ∷ memos) =
    (least ≤ memo.row) × (memo.row < rows) × IsSite end memo.span × (512 < memo.span.len) × (memo.span.len ≤ max_bytes)
    × AreMemos end rows (memo.row + 1) memos

-- a column of numbers of at most so many bits; a column of texts or byte strings
pub record IsNumbers (end rows most : ℕ) (w : Width) (block : Span) : Type 0 where
  pub narrow : bit_count w ≤ most
  pub span : IsSpan end block
  pub len : block.len ≡ packed_len w rows

pub record IsStrings (end rows : ℕ) (w : Width) (sizes short : Span) (memos : List Memo) : Type 0 where
  pub sizes_are : IsNumbers end rows 32 w sizes
  pub short_is : IsSpan end short
  pub memos_are : AreMemos end rows 0 memos

abbrev pub count_bodies : Bodies → ℕ
count_bodies no_bodies = 0
count_bodies (body rows columns rest) = 1 + count_bodies rest

-- what a directory may have of so many rows of a domain, of the columns of a schema, and of a table in each row
abbrev mutual
  pub IsEntry : ℕ → ℕ → Domain → Entry → Type 0
  IsEntry end rows Domain.integer (numbers w block) = IsNumbers end rows 32 w block
  IsEntry end rows Domain.long (numbers w block) = IsNumbers end rows 64 w block
  IsEntry end rows Domain.text (strings w sizes short memos) = IsStrings end rows w sizes short memos
  IsEntry end rows Domain.bytes (strings w sizes short memos) = IsStrings end rows w sizes short memos
  IsEntry end rows (Domain.relation h) (tables bodies) = (count_bodies bodies ≡ rows) × AreBodies end h bodies
  IsEntry end rows _ _ = ⊥

  pub AreEntries : ℕ → ℕ → Heading → Entries → Type 0
  AreEntries end rows no_attributes no_entries = Unit {0}
  AreEntries end rows (attribute n d h) (entry e rest) = IsEntry end rows d e × AreEntries end rows h rest
  AreEntries end rows _ _ = ⊥

  pub AreBodies : ℕ → Heading → Bodies → Type 0
  AreBodies end h no_bodies = Unit {0}
  AreBodies end h (body rows columns rest) = (rows ≤ max_rows) × AreEntries end rows h columns × AreBodies end h rest

pub record IsViewEntry (end : ℕ) (v : ViewEntry) : Type 0 where
  pub named : IsName v.name
  pub whole : IsHeading v.schema
  pub short : length (spelling v.name v.schema) ≤ max_structure
  pub few : v.rows ≤ max_rows
  pub entries : AreEntries end v.rows (heading_of v.schema) v.columns

-- the notes from this number on: their numbers ascend up to that of the commit
abbrev pub AreNotesFrom : ℕ → ℕ → List NoteEntry → Type 0
AreNotesFrom number least [] = Unit {0}
AreNotesFrom number least (note ∷ notes) =
    (least ≤ note.number) × (note.number ≤ number) × (0 < length note.text) × (length note.text ≤ 255) × IsText note.text
    × AreNotesFrom number (note.number + 1) notes

-- A mark of version 1 has no notes, and one of version 2 has 1 to 64.
pub record AreNotes (version number : ℕ) (notes : List NoteEntry) : Type 0 where
  pub each : AreNotesFrom number 1 notes
  pub few : length notes ≤ 64
  pub counted : ((version ≡ 1) × (notes ≡ [])) ⊎ ((version ≡ 2) × (0 < length notes))

-- the directory of a commit whose mark has this version, number and end
pub record IsDir (version number end : ℕ) (d : Dir) : Type 0 where
  pub few : length d.views ≤ max_views
  pub distinct : AllPairs (λ v w. v.name ≢ w.name) d.views
  pub each : All (IsViewEntry end) d.views
  pub notes : AreNotes version number d.notes
