-- The length of a structure text, property by property.
use Rattle.std.proofs.Common.{◌≡◌, ℕ, ◌+◌, ◌<◌, ◌≤◌, List, [], ◌∷◌, length, get_or, drop, ap, arith, codes, refl}
use Rattle.mk_value.specs.Heading.{Domain, Heading, no_attributes, attribute, Attribute, heading_of}
use Rattle.mk_value.proofs.Walks.{drop_read}
use Rattle.struct_text.specs.Lengths.{domain_length, properties_length, structure_length}

pub properties_length-some : (h : Heading) → 1 ≤ properties_length h
properties_length-some no_attributes = omega arith
properties_length-some (attribute n e rest) = omega arith

-- the length of the properties to come, with the next one
pub properties_length-next : (properties : List Attribute) (i : ℕ) (a : Attribute) → i < length properties → a ≡ get_or properties i a
    → properties_length (heading_of (drop i properties)) ≡ length a.name + domain_length a.domain + 1 + properties_length (heading_of (drop (i + 1) properties))
properties_length-next properties i a p e = ap (λ as'. properties_length (heading_of as')) (drop_read properties i a p e)

-- `people[name:S,age:I]` has 20 bytes, and `b[n:S,s[q:I]]` has 13
people_length : structure_length (codes "people") (record { name = codes "name"; domain = Domain.text } ∷ record { name = codes "age"; domain = Domain.integer } ∷ []) ≡ 20
people_length = refl

nested_length : structure_length (codes "b") (record { name = codes "n"; domain = Domain.text } ∷ record { name = codes "s"; domain = Domain.relation (attribute (codes "q") Domain.integer no_attributes) } ∷ []) ≡ 13
nested_length = refl
