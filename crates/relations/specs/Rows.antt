-- Schemas and rows by the names of properties.
use Rattle.std.specs.Prelude.{ℕ, pos, Bool, not, if◌then◌else◌, List, [], ◌∷◌, ◌++◌, map, filter, slice_index_or}
use Rattle.std.specs.List.{list_any}
use Rattle.mk_value.specs.Names.{same_bytes}
use Rattle.mk_value.specs.Heading.{Domain, Attribute, names_of}
use Rattle.mk_value.specs.Data.{Datum, integer}
use Rattle.mk_value.specs.Tables.{Table}

-- the property has this name
abbrev pub is_named : List ℕ → Attribute → Bool
is_named name a = same_bytes a.name name

-- the schema has a property of this name
abbrev pub has : List Attribute → List ℕ → Bool
has schema name = list_any (is_named name) schema

-- the name is one of these
abbrev pub is_among : List (List ℕ) → List ℕ → Bool
is_among names name = list_any (λ known. same_bytes known name) names

-- each name once, where it stands first
abbrev pub once : List (List ℕ) → List (List ℕ)
once [] = []
once (name ∷ rest) = name ∷ filter (λ other. not (same_bytes name other)) (once rest)

-- the domain of the property of a name, or that of the integers where there is none
abbrev pub domain_of : List Attribute → List ℕ → Domain
domain_of [] name = Domain.integer
domain_of (a ∷ schema) name = if is_named name a then a.domain else domain_of schema name

-- the value that a row has for the property of a name, or the number 0 where there is none
abbrev pub value_of : List Attribute → List Datum → List ℕ → Datum
value_of (a ∷ schema) (d ∷ row) name = if is_named name a then d else value_of schema row name
value_of _ _ name = integer (pos 0)

-- the properties of these names
abbrev pub properties_of : List Attribute → List (List ℕ) → List Attribute
properties_of schema names = map (λ name. record { name = name; domain = domain_of schema name }) names

-- the values of a row for these names
abbrev pub values_of : List Attribute → List (List ℕ) → List Datum → List Datum
values_of schema names row = map (λ name. value_of schema row name) names

-- the names of the other properties
abbrev pub others : List Attribute → List (List ℕ) → List (List ℕ)
others schema names = filter (λ name. not (is_among names name)) (names_of schema)

-- the names of the second schema that the first has not
abbrev pub unshared : List Attribute → List Attribute → List (List ℕ)
unshared first second = filter (λ name. not (has first name)) (names_of second)

-- two schemas side by side: the second's properties whose names the first has are dropped
abbrev pub schema_beside : List Attribute → List Attribute → List Attribute
schema_beside first second = first ++ properties_of second (unshared first second)

-- a row of the first schema beside one of the second
abbrev pub row_beside : List Attribute → List Attribute → List Datum → List Datum → List Datum
row_beside first second one two = one ++ values_of second (unshared first second) two

-- the rows at these positions
abbrev pub rows_at : List (List Datum) → List ℕ → List (List Datum)
rows_at rows positions = map (λ i. slice_index_or rows i []) positions

-- each row with the properties of these names alone, in the names' order
abbrev pub only : List (List ℕ) → Table → Table
only names t = record { schema = properties_of t.schema names; rows = map (values_of t.schema names) t.rows }
