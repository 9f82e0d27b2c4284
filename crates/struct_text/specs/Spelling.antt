-- The one spelling of a structure.
use Rattle.std.specs.Prelude.{◌≡◌, ℕ, List, [], ◌∷◌, ◌++◌}
use Rattle.mk_value.specs.Names.{IsName}
use Rattle.mk_value.specs.Heading.{Domain, integer, long, text, bytes, relation, Heading, no_attributes, attribute, Attribute, heading_of, IsHeading}
use Rattle.struct_text.specs.Bytes.{open_bracket, close_bracket, colon, comma}

abbrev mutual
  -- what stands behind a property's name: `:K`, or `[PROPS]`
  pub spelled_domain : Domain → List ℕ
  spelled_domain integer = colon ∷ 73 ∷ []
  spelled_domain long = colon ∷ 76 ∷ []
  spelled_domain text = colon ∷ 83 ∷ []
  spelled_domain bytes = colon ∷ 66 ∷ []
  spelled_domain (relation h) = open_bracket ∷ (spelled_properties h ++ close_bracket ∷ [])

  -- the properties, joined by commas
  pub spelled_properties : Heading → List ℕ
  spelled_properties no_attributes = []
  spelled_properties (attribute n d no_attributes) = n ++ spelled_domain d
  spelled_properties (attribute n d (attribute m e rest)) = n ++ (spelled_domain d ++ (comma ∷ spelled_properties (attribute m e rest)))

-- `NAME[PROPS]`
abbrev pub spelling : List ℕ → List Attribute → List ℕ
spelling name properties = name ++ (open_bracket ∷ (spelled_properties (heading_of properties) ++ close_bracket ∷ []))

-- The text spells the structure: a name, and a schema within the limits.
pub record Spells (spelled name : List ℕ) (properties : List Attribute) : Type 0 where
  pub named : IsName name
  pub whole : IsHeading properties
  pub is : spelled ≡ spelling name properties
