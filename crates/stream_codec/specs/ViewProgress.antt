-- Views under way: the table whose row is coming, and the tables around it.
use Rattle.std.specs.Prelude.{◌≡◌, ℕ, ◌-◌, ◌<◌, List, [], ◌∷◌, ◌++◌, length, Option, Some, None}
use Rattle.std.specs.List.{flat_map}
use Rattle.byteorder.specs.Endian.{little_bytes}
use Rattle.mk_value.specs.Heading.{Attribute, Domain, heading_of}
use Rattle.struct_text.specs.Spelling.{spelling}
use Rattle.stream_codec.specs.Fields.{Due, content}
use Rattle.stream_codec.specs.Progress.{TableProgress, due_behind, due_of, next_domain, progress_at_start, spelled_of}
use Rattle.stream_codec.specs.Steps.{Leads, first_len}
use Rattle.stream_codec.specs.Stream.{counted}
use Rattle.stream_codec.specs.Values.{AwaitsContent}
use Rattle.stream_codec.specs.declared.partial_view.PartialView.{PartialView}

-- what is due of a table, where the length of the content that comes next is known or not
abbrev pub due_at : Option ℕ → TableProgress → List Due
due_at None t = due_of t
due_at (Some len) t = content (next_domain t) len ∷ due_behind t

abbrev pub spelled_length : Option ℕ → List ℕ
spelled_length None = []
spelled_length (Some len) = little_bytes 4 len

-- what is due behind a table of the tables around it, the outermost of which stands first
abbrev pub due_around : List TableProgress → List Due
due_around [] = []
due_around (t ∷ ts) = due_around ts ++ due_behind t

-- the table stands in the row of another that is coming; so do the tables of a list, each in the one before it, and this one in the last
pub record IsAround (t inner : TableProgress) : Type 0 where
  pub within : length t.row < length t.schema
  pub view : next_domain t ≡ Domain.relation (heading_of inner.schema)

abbrev pub AreAround : List TableProgress → TableProgress → Type 0
AreAround [] inner = Unit {0}
AreAround (t ∷ []) inner = IsAround t inner
AreAround (t ∷ u ∷ ts) inner = IsAround t u × AreAround (u ∷ ts) inner

-- the schema of the outermost of them
abbrev pub outermost : List TableProgress → TableProgress → List Attribute
outermost [] inner = inner.schema
outermost (t ∷ ts) inner = t.schema

-- a content of this length may come next
abbrev pub IsAwaited : Option ℕ → TableProgress → Type 0
IsAwaited None t = Unit {0}
IsAwaited (Some len) t = AwaitsContent len (next_domain t) × (length t.row < length t.schema)

abbrev pub due_of_view : PartialView → List Due
due_of_view v = due_at v.content v.table ++ due_around v.around.items

abbrev pub schema_of_view : PartialView → List Attribute
schema_of_view v = outermost v.around.items v.table

abbrev pub spelled_of_view : PartialView → List ℕ
spelled_of_view v =
    counted (spelling v.name (schema_of_view v)) ++ (flat_map spelled_of v.around.items ++ (spelled_of v.table ++ spelled_length v.content))

-- how many bytes the field has that is due
abbrev pub next_len : PartialView → ℕ
next_len v = first_len (due_at v.content v.table)

-- the table of so many rows that stands in the row of another
abbrev pub IsOpened : ℕ → TableProgress → TableProgress → Type 0
IsOpened count t inner = (next_domain t ≡ Domain.relation (heading_of inner.schema)) × (inner ≡ progress_at_start inner.schema (count - 1)) × (0 < length inner.schema)

-- what holds between two fields, but that the row may be whole
pub record IsPartialView (v : PartialView) : Type 0 where
  pub around : AreAround v.around.items v.table
  pub awaits : IsAwaited v.content v.table

-- a view after a field
pub record Takes (old : PartialView) (field : List ℕ) (new : PartialView) : Type 0 where
  pub leads : Leads (due_of_view old) field (due_of_view new)
  pub spells : spelled_of_view new ≡ spelled_of_view old ++ field
  pub whole : IsPartialView new
  pub named : new.name ≡ old.name
  pub same_schema : schema_of_view new ≡ schema_of_view old
