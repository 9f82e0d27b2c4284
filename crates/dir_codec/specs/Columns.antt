-- The plain columns of a directory, nested ones too, and where each begins in its bytes.
use Rattle.std.specs.Prelude.{ℕ, ◌+◌, List, [], ◌∷◌, ◌++◌, length}
use Rattle.mk_value.specs.Heading.{Domain, Heading, attribute, heading_of}
use Rattle.struct_text.specs.Spelling.{spelling}
use Rattle.dir_codec.specs.Dir.{Dir, Entry, Entries, entry, Bodies, no_bodies, body, ViewEntry, spelled_entry, spelled_entries, spelled_view}

-- a plain column as a directory has it: the offset of its first byte there, its domain, its row count and its entry
pub record PlainEntry : Type 0 where
  pub start : ℕ
  pub domain : Domain
  pub rows : ℕ
  pub entry : Entry

-- The plain columns of a directory, nested ones too, in order: of an entry whose first byte is at this offset, of entries, and of bodies.
abbrev mutual
  pub plain_entry : Entry → Domain → ℕ → ℕ → List PlainEntry
  plain_entry (Entry.tables bodies) (Domain.relation h) at rows = plain_bodies bodies h at
  plain_entry e d at rows = record { start = at; domain = d; rows = rows; entry = e } ∷ []

  pub plain_entries : Entries → Heading → ℕ → ℕ → List PlainEntry
  plain_entries (entry e rest) (attribute n d h) at rows = plain_entry e d at rows ++ plain_entries rest h (at + length (spelled_entry e)) rows
  plain_entries _ _ at rows = []

  pub plain_bodies : Bodies → Heading → ℕ → List PlainEntry
  plain_bodies no_bodies h at = []
  plain_bodies (body rows columns rest) h at = plain_entries columns h (at + 4) rows ++ plain_bodies rest h (at + 4 + length (spelled_entries columns))

abbrev pub plain_view_entries : ℕ → List ViewEntry → List PlainEntry
plain_view_entries at [] = []
plain_view_entries at (v ∷ views) =
    plain_entries v.columns (heading_of v.schema) (at + 8 + length (spelling v.name v.schema)) v.rows ++ plain_view_entries (at + length (spelled_view v)) views

-- behind the count of views
abbrev pub dir_columns : Dir → List PlainEntry
dir_columns d = plain_view_entries 4 d.views
