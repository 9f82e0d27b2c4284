-- The fields of a stream, one by one, and the first that is not as required.
use Rattle.std.specs.Prelude.{◌≡◌, ◌≢◌, ℕ, zero, suc, ◌<◌, ◌≤◌, List, [], ◌∷◌, ◌++◌, length, take, drop, Contains}
use Rattle.byteorder.specs.Endian.{little_number}
use Rattle.mk_value.specs.Data.{IsText}
use Rattle.mk_value.specs.Heading.{Attribute, Domain, Heading, no_attributes, attribute, heading_of}
use Rattle.mk_value.specs.Limits.{max_bytes, max_rows, max_structure, max_views}
use Rattle.struct_text.specs.Spelling.{Spells}
use Rattle.stream_codec.specs.declared.error.LoadError.{LoadError}
use Rattle.stream_codec.specs.declared.error.LoadError.TheVariants.{At, Memory}
use Rattle.stream_codec.specs.Stream.{signature}

-- What is due at a place of a stream is one field. The numbers are what the fields before it have settled.
pub data Due : Type 0 where
  opening : Due
  view_count : Due
  -- the length of a structure text, and a structure text of so many bytes: of a view behind which so many more come, and before which
  -- views of these names stand
  text_length : ℕ → List (List ℕ) → Due
  structure : ℕ → ℕ → List (List ℕ) → Due
  row_count : Heading → Due
  -- a number of so many bytes
  number : ℕ → Due
  -- the length of a text or a byte string, and the bytes of one
  content_length : Domain → Due
  content : Domain → ℕ → Due

-- how many bytes the field has
abbrev pub field_len : Due → ℕ
field_len opening = 8
field_len view_count = 4
field_len (text_length more names) = 4
field_len (structure len more names) = len
field_len (row_count h) = 4
field_len (number len) = len
field_len (content_length d) = 4
field_len (content d len) = len

-- what is due for so many views more, for a row, and for so many rows
abbrev pub views_due : ℕ → List (List ℕ) → List Due
views_due zero names = []
views_due (suc more) names = text_length more names ∷ []

abbrev pub value_due : Domain → Due
value_due Domain.integer = number 4
value_due Domain.long = number 8
value_due Domain.text = content_length Domain.text
value_due Domain.bytes = content_length Domain.bytes
value_due (Domain.relation h) = row_count h

abbrev pub row_due : Heading → List Due
row_due no_attributes = []
row_due (attribute n d rest) = value_due d ∷ row_due rest

abbrev pub rows_due : ℕ → Heading → List Due
rows_due zero h = []
rows_due (suc more) h = row_due h ++ rows_due more h

-- the number that a field is
abbrev pub number_of_field : List ℕ → ℕ
number_of_field field = little_number (length field) field

-- the bytes are those of a value: a text is UTF-8 without a zero byte
abbrev pub IsContent : Domain → List ℕ → Type 0
IsContent Domain.text field = IsText field
IsContent _ field = Unit {0}

-- The field is as required where this is due, and then these are due in its place.
abbrev pub IsField : Due → List ℕ → List Due → Type 0
IsField opening f next = (f ≡ signature) × (next ≡ [])
IsField view_count f next = (number_of_field f ≤ max_views) × (next ≡ views_due (number_of_field f) [])
IsField (text_length more names) f next = (number_of_field f ≤ max_structure) × (next ≡ structure (number_of_field f) more names ∷ [])
IsField (structure len more names) f next =
    (name : List ℕ) × (schema : List Attribute) × Spells f name schema × (¬ Contains names name)
    × (next ≡ row_count (heading_of schema) ∷ views_due more (name ∷ names))
IsField (row_count h) f next = (number_of_field f ≤ max_rows) × (next ≡ rows_due (number_of_field f) h)
IsField (number len) f next = next ≡ []
IsField (content_length d) f next = (number_of_field f ≤ max_bytes) × (next ≡ content d (number_of_field f) ∷ [])
IsField (content d len) f next = IsContent d f × (next ≡ [])

-- what is due of a whole stream
abbrev pub all_due : List Due
all_due = opening ∷ view_count ∷ []

-- From these dues and bytes one comes to those over whole fields, each as required.
pub data Goes : List Due → List ℕ → List Due → List ℕ → Type 0 where
  stays : (due : List Due) (bytes : List ℕ) → Goes due bytes due bytes
  takes : (d : Due) (due next last : List Due) (bytes rest : List ℕ) → field_len d ≤ length bytes → IsField d (take (field_len d) bytes) next
      → Goes (next ++ due) (drop (field_len d) bytes) last rest → Goes (d ∷ due) bytes last rest

-- the first field that is due is held whole, and is not as required; where none is due, a byte is there
abbrev pub IsWrong : List Due → List ℕ → Type 0
IsWrong [] bytes = bytes ≢ []
IsWrong (d ∷ due) bytes = (field_len d ≤ length bytes) × ((next : List Due) → IsField d (take (field_len d) bytes) next → ⊥)

-- the first field that is due is not held whole
abbrev pub IsShort : List Due → List ℕ → Type 0
IsShort [] bytes = ⊥
IsShort (d ∷ due) bytes = length bytes < field_len d

-- The fields before the place are as required, and of what is due at the place this holds.
pub record ComesTo (P : List Due → List ℕ → Type 0) (bytes : List ℕ) (place : ℕ) : Type 0 where
  pub due : List Due
  pub before : Goes all_due bytes due (drop place bytes)
  pub within : place ≤ length bytes
  pub there : P due (drop place bytes)

-- the field at the place is the first that is not as required; the bytes end within the field at the place, or before it
abbrev pub IsWrongAt : List ℕ → ℕ → Type 0
IsWrongAt bytes place = ComesTo IsWrong bytes place

abbrev pub IsCutOffAt : List ℕ → ℕ → Type 0
IsCutOffAt bytes place = ComesTo IsShort bytes place

-- each field that the bytes hold whole is as required
abbrev pub MayGoOn : List ℕ → Type 0
MayGoOn bytes = (place : ℕ) → IsWrongAt bytes place → ⊥

-- why bytes are refused while more may come, and at their end
abbrev pub IsRefusedFor : List ℕ → LoadError → Type 0
IsRefusedFor bytes (At place) = IsWrongAt bytes place
IsRefusedFor bytes Memory = Unit {0}

abbrev pub IsIncomplete : List ℕ → LoadError → Type 0
IsIncomplete bytes (At place) = IsCutOffAt bytes place
IsIncomplete bytes Memory = Unit {0}
