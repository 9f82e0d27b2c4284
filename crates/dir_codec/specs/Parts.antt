-- What is due for the parts of a directory, and how they are spelled.
use Rattle.std.specs.Prelude.{◌≢◌, ◌==◌, if◌then◌else◌, ℕ, ◌+◌, ◌<◌, ◌≤◌, List, [], ◌∷◌, ◌++◌, length, map, reverse, All, AllPairs, Contains}
use Rattle.std.specs.List.{flat_map}
use Rattle.bit_pack.specs.declared.widths.Width.{Width}
use Rattle.bit_pack.specs.Width.{bit_count}
use Rattle.mk_value.specs.declared.span.Span.{Span}
use Rattle.byteorder.specs.Endian.{little_bytes}
use Rattle.mk_value.specs.Data.{IsText}
use Rattle.mk_value.specs.Heading.{Attribute, IsHeading}
use Rattle.mk_value.specs.Limits.{max_structure, max_views}
use Rattle.mk_value.specs.Names.{IsName}
use Rattle.struct_text.specs.Spelling.{spelling}
use Rattle.dir_codec.specs.declared.dir.DirView.{DirView}
use Rattle.dir_codec.specs.declared.dir.Memo.{Memo}
use Rattle.dir_codec.specs.Dir.{Entry, numbers, IsNumbers, IsViewEntry, NoteEntry, spelled_memo, spelled_span, spelled_view}
use Rattle.dir_codec.specs.Fields.{Due, note_count, sizes_width, width}
use Rattle.dir_codec.specs.Values.{view_of}

abbrev pub numbers_due : ℕ → ℕ → List Due
numbers_due rows most = width rows most ∷ []

abbrev pub spelled_numbers : Width × Span → List ℕ
spelled_numbers x = bit_count x.0 ∷ spelled_span x.1

-- a column of numbers of at most so many bits
abbrev pub AreNumbers : ℕ → ℕ → ℕ → Entry → Type 0
AreNumbers end rows most (numbers w block) = IsNumbers end rows most w block
AreNumbers end rows most _ = ⊥

-- the memos of a column of so many rows, so many more of them, from this row on
abbrev pub spelled_memos : List Memo → List ℕ
spelled_memos memos = flat_map spelled_memo memos

-- the row behind the last of these memos, the first of which is from this row on
abbrev pub next_row : ℕ → List Memo → ℕ
next_row least [] = least
next_row least (memo ∷ memos) = next_row (memo.row + 1) memos

abbrev pub strings_due : ℕ → List Due
strings_due rows = sizes_width rows ∷ []

-- a note in a directory of a commit with this number, whose own number is from this one on
pub record IsNote (number least : ℕ) (note : NoteEntry) : Type 0 where
  pub from : least ≤ note.number
  pub upto : note.number ≤ number
  pub some : 0 < length note.text
  pub few : length note.text ≤ 255
  pub text : IsText note.text

-- the names of these views, the last first
abbrev pub names_before : List DirView → List (List ℕ)
names_before views = reverse (map (λ v. v.name) views)

-- the structure of a view that stands behind these
pub record IsNewStructure (views : List DirView) (name : List ℕ) (schema : List Attribute) : Type 0 where
  pub named : IsName name
  pub whole : IsHeading schema
  pub short : length (spelling name schema) ≤ max_structure
  pub new : ¬ Contains (names_before views) name

abbrev pub spelled_structure : List ℕ → List Attribute → List ℕ
spelled_structure name schema = little_bytes 4 (length (spelling name schema)) ++ spelling name schema

-- views, one after another
pub record AreViews (end : ℕ) (views : List DirView) : Type 0 where
  pub few : length views ≤ max_views
  pub distinct : AllPairs (λ v w. v.name ≢ w.name) (map view_of views)
  pub each : All (IsViewEntry end) (map view_of views)

abbrev pub spelled_views : List DirView → List ℕ
spelled_views views = little_bytes 4 (length views) ++ flat_map spelled_view (map view_of views)

-- what is due behind the views, under a mark of this version
abbrev pub notes_behind : ℕ → List Due
notes_behind version = if version == 2 then note_count ∷ [] else []
