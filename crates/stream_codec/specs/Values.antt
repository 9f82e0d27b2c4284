-- What a field of a row says.
use Rattle.std.specs.Prelude.{◌≡◌, ℕ, ◌≤◌, ◌<◌, List, [], ◌∷◌, ◌++◌}
use Rattle.byteorder.specs.Endian.{little_bytes}
use Rattle.mk_value.specs.Data.{Datum, IsOf}
use Rattle.mk_value.specs.Heading.{Domain}
use Rattle.mk_value.specs.Limits.{max_bytes, max_rows}
use Rattle.mk_value.specs.Values.{datum_of}
use Rattle.stream_codec.specs.declared.values.Found.{Found}
use Rattle.stream_codec.specs.declared.values.Found.TheVariants.{Whole, Content, Rows}
use Rattle.stream_codec.specs.Fields.{Due, content, rows_due, value_due}
use Rattle.stream_codec.specs.Steps.{Leads}
use Rattle.stream_codec.specs.Stream.{spelled_value}

-- so many bytes of content are due for a value of the domain
abbrev pub AwaitsContent : ℕ → Domain → Type 0
AwaitsContent len Domain.text = (0 < len) × (len ≤ max_bytes)
AwaitsContent len Domain.bytes = (0 < len) × (len ≤ max_bytes)
AwaitsContent len _ = ⊥

-- the values of the domain are relations
abbrev pub IsRelation : Domain → Type 0
IsRelation (Domain.relation h) = Unit {0}
IsRelation _ = ⊥

-- so many rows are due for a value of the domain, and what they are
abbrev pub AwaitsRows : ℕ → Domain → Type 0
AwaitsRows count (Domain.relation h) = (0 < count) × (count ≤ max_rows)
AwaitsRows count _ = ⊥

abbrev pub inner_due : ℕ → Domain → List Due
inner_due count (Domain.relation h) = rows_due count h
inner_due count _ = []

-- the field is a whole value of the domain, the length of its content, or the number of its rows
abbrev pub Says : Domain → List ℕ → Found → Type 0
Says d field (Whole v) = IsOf (datum_of v) d × (spelled_value (datum_of v) ≡ field) × ((due : List Due) → Leads (value_due d ∷ due) field due)
Says d field (Content len) =
    AwaitsContent len d × (little_bytes 4 len ≡ field) × ((due : List Due) → Leads (value_due d ∷ due) field (content d len ∷ due))
Says d field (Rows count) =
    AwaitsRows count d × (little_bytes 4 count ≡ field) × ((due : List Due) → Leads (value_due d ∷ due) field (inner_due count d ++ due))

-- the field is the content of a value of the domain, which has so many bytes
pub record IsContentOf (d : Domain) (len : ℕ) (field : List ℕ) (x : Datum) : Type 0 where
  pub fits : IsOf x d
  pub spells : spelled_value x ≡ little_bytes 4 len ++ field
  pub leads : (due : List Due) → Leads (content d len ∷ due) field due
