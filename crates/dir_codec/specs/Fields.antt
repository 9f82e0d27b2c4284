-- The fields of a directory one by one, and the first that is not as required.
use Rattle.std.specs.Prelude.{◌≡◌, ◌≢◌, ℕ, zero, suc, ◌+◌, ◌<◌, ◌≤◌, ◌⊎◌, ◌==◌, if◌then◌else◌, List, [], ◌∷◌, ◌++◌, length, take, drop, replicate, Contains}
use Rattle.byteorder.specs.Endian.{little_number}
use Rattle.bit_pack.specs.declared.widths.Width.{Width}
use Rattle.bit_pack.specs.Width.{bit_count}
use Rattle.bit_pack.specs.Packed.{packed_len}
use Rattle.mk_value.specs.declared.span.Span.{Span}
use Rattle.mk_value.specs.Limits.{max_bytes, max_rows, max_structure, max_views}
use Rattle.mk_value.specs.Heading.{Domain, Heading, no_attributes, attribute, Attribute, heading_of}
use Rattle.mk_value.specs.Data.{IsText}
use Rattle.struct_text.specs.Spelling.{Spells}
use Rattle.free_space.specs.Sites.{IsSite}
use Rattle.dir_codec.specs.Dir.{IsSpan}

-- What is due at a place of a directory is one field. The numbers are what the fields before it have settled.
pub data Due : Type 0 where
  view_count : Due
  -- the length of a structure text, and a structure text of so many bytes: of a view behind which so many more come, and before which
  -- views of these names stand
  text_length : ℕ → List (List ℕ) → Due
  structure : ℕ → ℕ → List (List ℕ) → Due
  row_count : Heading → Due
  -- of so many rows: the width of numbers of at most so many bits; the width of sizes
  width : ℕ → ℕ → Due
  sizes_width : ℕ → Due
  -- the span of a block of so many bytes; of the short block; of a memo
  block : ℕ → Due
  short_block : Due
  memo_block : Due
  -- how many memos, and the row of one behind which so many more come: below so many rows, from this row on
  memo_count : ℕ → Due
  memo_row : ℕ → ℕ → ℕ → Due
  -- how many notes, and the number of one behind which so many more come, from this number on
  note_count : Due
  note_number : ℕ → ℕ → Due
  note_length : Due
  note_text : ℕ → Due

-- how many bytes the field has
abbrev pub field_len : Due → ℕ
field_len view_count = 4
field_len (text_length more names) = 4
field_len (structure len more names) = len
field_len (row_count h) = 4
field_len (width rows most) = 1
field_len (sizes_width rows) = 1
field_len (block len) = 16
field_len short_block = 16
field_len memo_block = 16
field_len (memo_count rows) = 4
field_len (memo_row more rows least) = 4
field_len note_count = 4
field_len (note_number more least) = 8
field_len note_length = 4
field_len (note_text len) = len

-- what is due for so many views, memos or notes more, and for the columns of so many rows
abbrev pub views_due : ℕ → List (List ℕ) → List Due
views_due zero names = []
views_due (suc more) names = text_length more names ∷ []

abbrev pub memos_due : ℕ → ℕ → ℕ → List Due
memos_due zero rows least = []
memos_due (suc more) rows least = memo_row more rows least ∷ []

abbrev pub notes_due : ℕ → ℕ → List Due
notes_due zero least = []
notes_due (suc more) least = note_number more least ∷ []

abbrev pub column_due : ℕ → Domain → List Due
column_due rows Domain.integer = width rows 32 ∷ []
column_due rows Domain.long = width rows 64 ∷ []
column_due rows Domain.text = sizes_width rows ∷ []
column_due rows Domain.bytes = sizes_width rows ∷ []
column_due rows (Domain.relation h) = replicate rows (row_count h)

abbrev pub columns_due : ℕ → Heading → List Due
columns_due rows no_attributes = []
columns_due rows (attribute n d h) = column_due rows d ++ columns_due rows h

-- the number, or the span, that a field is
abbrev pub number_of_field : List ℕ → ℕ
number_of_field field = little_number (length field) field

abbrev pub span_of_field : List ℕ → Span
span_of_field field = record { place = little_number 8 field; len = little_number 8 (drop 8 field) }

-- The field is as required where this is due, under a mark with this number and end, and then these are due in its place.
abbrev pub IsField : ℕ → ℕ → Due → List ℕ → List Due → Type 0
IsField number end view_count f next = (number_of_field f ≤ max_views) × (next ≡ views_due (number_of_field f) [])
IsField number end (text_length more names) f next = (number_of_field f ≤ max_structure) × (next ≡ structure (number_of_field f) more names ∷ [])
IsField number end (structure len more names) f next =
    (name : List ℕ) × (schema : List Attribute) × Spells f name schema × (¬ Contains names name)
    × (next ≡ row_count (heading_of schema) ∷ views_due more (name ∷ names))
IsField number end (row_count h) f next = (number_of_field f ≤ max_rows) × (next ≡ columns_due (number_of_field f) h)
IsField number end (width rows most) f next = (w : Width) × (f ≡ bit_count w ∷ []) × (bit_count w ≤ most) × (next ≡ block (packed_len w rows) ∷ [])
IsField number end (sizes_width rows) f next =
    (w : Width) × (f ≡ bit_count w ∷ []) × (bit_count w ≤ 32) × (next ≡ block (packed_len w rows) ∷ short_block ∷ memo_count rows ∷ [])
IsField number end (block len) f next = IsSpan end (span_of_field f) × ((span_of_field f).len ≡ len) × (next ≡ [])
IsField number end short_block f next = IsSpan end (span_of_field f) × (next ≡ [])
IsField number end memo_block f next =
    IsSite end (span_of_field f) × (512 < (span_of_field f).len) × ((span_of_field f).len ≤ max_bytes) × (next ≡ [])
IsField number end (memo_count rows) f next = (number_of_field f ≤ rows) × (next ≡ memos_due (number_of_field f) rows 0)
IsField number end (memo_row more rows least) f next =
    (least ≤ number_of_field f) × (number_of_field f < rows) × (next ≡ memo_block ∷ memos_due more rows (number_of_field f + 1))
IsField number end note_count f next = (1 ≤ number_of_field f) × (number_of_field f ≤ 64) × (next ≡ notes_due (number_of_field f) 1)
IsField number end (note_number more least) f next =
    (least ≤ number_of_field f) × (number_of_field f ≤ number) × (next ≡ note_length ∷ notes_due more (number_of_field f + 1))
IsField number end note_length f next = (1 ≤ number_of_field f) × (number_of_field f ≤ 255) × (next ≡ note_text (number_of_field f) ∷ [])
IsField number end (note_text len) f next = IsText f × (next ≡ [])

-- what is due of a whole directory, under a mark of this version
abbrev pub all_due : ℕ → List Due
all_due version = view_count ∷ (if version == 2 then note_count ∷ [] else [])

-- From these dues and bytes one comes to those over whole fields, each as required.
pub data Goes (number end : ℕ) : List Due → List ℕ → List Due → List ℕ → Type 0 where
  stays : (due : List Due) (bytes : List ℕ) → Goes number end due bytes due bytes
  takes : (d : Due) (due next last : List Due) (bytes rest : List ℕ) → field_len d ≤ length bytes → IsField number end d (take (field_len d) bytes) next
      → Goes number end (next ++ due) (drop (field_len d) bytes) last rest → Goes number end (d ∷ due) bytes last rest

-- the first field that is due is not held whole, or not as required; where none is due, a byte is there
abbrev pub IsFlawed : ℕ → ℕ → List Due → List ℕ → Type 0
IsFlawed number end [] bytes = bytes ≢ []
IsFlawed number end (d ∷ due) bytes =
    (length bytes < field_len d) ⊎ ((next : List Due) → IsField number end d (take (field_len d) bytes) next → ⊥)

-- The fields before the place are as required, and the one at the place is not.
pub record IsFirstFlaw (version number end : ℕ) (bytes : List ℕ) (place : ℕ) : Type 0 where
  pub due : List Due
  pub before : Goes number end (all_due version) bytes due (drop place bytes)
  pub within : place ≤ length bytes
  pub flawed : IsFlawed number end due (drop place bytes)
