-- How many bytes a structure text has.
use Rattle.std.specs.Prelude.{ℕ, ◌+◌, List, length}
use Rattle.mk_value.specs.Heading.{Domain, Heading, no_attributes, attribute, Attribute, heading_of}

-- the number of bytes of a structure text: a name, and in brackets the properties, with commas between them.
-- A plain property is a name, a colon and a letter; a view property is a name and its own properties in brackets.
abbrev mutual
  pub domain_length : Domain → ℕ
  domain_length (Domain.relation h) = properties_length h
  domain_length _ = 2

  pub properties_length : Heading → ℕ
  properties_length no_attributes = 1
  properties_length (attribute name e rest) = length name + domain_length e + 1 + properties_length rest

abbrev pub structure_length : List ℕ → List Attribute → ℕ
structure_length name schema = length name + properties_length (heading_of schema)
