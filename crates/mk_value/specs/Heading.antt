-- Schemas as plain data: what a kind and a list of properties mean.
use Rattle.std.specs.Prelude.{◌≡◌, ◌≢◌, ℕ, zero, suc, ◌+◌, ◌<◌, ◌≤◌, max, List, [], ◌∷◌, length, map, position, Option, All, AllPairs, refl}
use Rattle.std.specs.Coded.{Coded, code_by, coded_ℕ, coded_list, coded×}
use Rattle.std.proofs.Common.{ap, ◌∙◌}
use Rattle.mk_value.specs.Limits.{max_properties, max_depth}
use Rattle.mk_value.specs.Names.{IsName, same_bytes}
use Rattle.mk_value.specs.Tree.{Tree, leaf, node, numbers_of, tree_code}

-- The values that a property may have, and the properties of a relation, spelled out one by one: a name, its domain, and the rest.
mutual
  pub data Domain : Type 0 where
    integer : Domain
    long : Domain
    text : Domain
    bytes : Domain
    relation : Heading → Domain

  pub data Heading : Type 0 where
    no_attributes : Heading
    attribute : List ℕ → Domain → Heading → Heading

-- a property: its name and its domain
pub record Attribute : Type 0 where
  pub name : List ℕ
  pub domain : Domain

-- the same properties as a list, and back
abbrev pub attributes_of : Heading → List Attribute
attributes_of no_attributes = []
attributes_of (attribute n d rest) = record { name = n; domain = d } ∷ attributes_of rest

abbrev pub heading_of : List Attribute → Heading
heading_of [] = no_attributes
heading_of (a ∷ rest) = attribute a.name a.domain (heading_of rest)

abbrev pub names_of : List Attribute → List (List ℕ)
names_of attributes = map (λ a. a.name) attributes

-- how deep a domain nests: each relation adds one
abbrev mutual
  pub domain_depth : Domain → ℕ
  domain_depth integer = 0
  domain_depth long = 0
  domain_depth text = 0
  domain_depth bytes = 0
  domain_depth (relation h) = heading_depth h + 1

  -- the greatest depth of a property's domain
  pub heading_depth : Heading → ℕ
  heading_depth no_attributes = 0
  heading_depth (attribute n d rest) = max (domain_depth d) (heading_depth rest)

-- how deep a schema nests, itself counted
abbrev pub depth_of : List Attribute → ℕ
depth_of attributes = heading_depth (heading_of attributes) + 1

-- no two properties have one name
abbrev pub HaveDistinctNames : List Attribute → Type 0
HaveDistinctNames attributes = AllPairs (λ a b. a.name ≢ b.name) attributes

-- the limits of one schema: 1 to 64 properties, distinct names, at most 8 deep
pub record IsWithinLimits (attributes : List Attribute) : Type 0 where
  pub some : 0 < length attributes
  pub few : length attributes ≤ max_properties
  pub distinct : HaveDistinctNames attributes
  pub shallow : depth_of attributes ≤ max_depth

-- each schema inside the domain is whole
abbrev mutual
  pub IsDomain : Domain → Type 0
  IsDomain integer = Unit {0}
  IsDomain long = Unit {0}
  IsDomain text = Unit {0}
  IsDomain bytes = Unit {0}
  IsDomain (relation h) = IsWithinLimits (attributes_of h) × AreAttributes h

  pub AreAttributes : Heading → Type 0
  AreAttributes no_attributes = Unit {0}
  AreAttributes (attribute n d rest) = IsName n × IsDomain d × AreAttributes rest

-- a property has a name by the rules and a domain whose schemas are whole
pub record IsAttribute (a : Attribute) : Type 0 where
  pub name : IsName a.name
  pub domain : IsDomain a.domain

-- a whole schema: within its limits, and so is each schema inside it
pub record IsHeading (properties : List Attribute) : Type 0 where
  pub limits : IsWithinLimits properties
  pub attributes : All IsAttribute properties

-- the place of the first property of a name
abbrev pub find : List Attribute → List ℕ → Option ℕ
find attributes name = position (λ a. same_bytes a.name name) attributes

-- Domains and headings are coded as trees.
abbrev mutual
  pub domain_tree : Domain → Tree
  domain_tree integer = leaf (0 ∷ [])
  domain_tree long = leaf (1 ∷ [])
  domain_tree text = leaf (2 ∷ [])
  domain_tree bytes = leaf (3 ∷ [])
  domain_tree (relation h) = node (leaf []) (heading_tree h)

  pub heading_tree : Heading → Tree
  heading_tree no_attributes = leaf []
  heading_tree (attribute n d rest) = node (node (leaf n) (domain_tree d)) (heading_tree rest)

abbrev mutual
  pub tree_domain : Tree → Domain
  tree_domain (leaf []) = integer
  tree_domain (leaf (zero ∷ _)) = integer
  tree_domain (leaf (suc zero ∷ _)) = long
  tree_domain (leaf (suc (suc zero) ∷ _)) = text
  tree_domain (leaf (suc (suc (suc _)) ∷ _)) = bytes
  tree_domain (node _ h) = relation (tree_heading h)

  pub tree_heading : Tree → Heading
  tree_heading (leaf _) = no_attributes
  tree_heading (node (leaf _) rest) = no_attributes
  tree_heading (node (node n d) rest) = attribute (numbers_of n) (tree_domain d) (tree_heading rest)

mutual
  pub tree_domain-tree : (d : Domain) → tree_domain (domain_tree d) ≡ d
  tree_domain-tree integer = refl
  tree_domain-tree long = refl
  tree_domain-tree text = refl
  tree_domain-tree bytes = refl
  tree_domain-tree (relation h) = ap relation (tree_heading-tree h)

  pub tree_heading-tree : (h : Heading) → tree_heading (heading_tree h) ≡ h
  tree_heading-tree no_attributes = refl
  tree_heading-tree (attribute n d rest) =
      ap (λ e. attribute n e (tree_heading (heading_tree rest))) (tree_domain-tree d)
      ∙ ap (λ r. attribute n d r) (tree_heading-tree rest)

abbrev pub domain_code : Coded Domain
domain_code = code_by Tree tree_code domain_tree tree_domain tree_domain-tree

abbrev pub attribute_code : Coded Attribute
attribute_code = code_by (List ℕ × Domain) (coded× (coded_list coded_ℕ) domain_code) (λ a. (a.name, a.domain)) (λ p. record { name = p.0; domain = p.1 }) (λ _. refl)

abbrev pub attributes_code : Coded (List Attribute)
attributes_code = coded_list attribute_code

-- How much a domain holds: more than each schema inside it.
abbrev mutual
  pub domain_weight : Domain → ℕ
  domain_weight integer = 0
  domain_weight long = 0
  domain_weight text = 0
  domain_weight bytes = 0
  domain_weight (relation h) = heading_weight h + 2

  pub heading_weight : Heading → ℕ
  heading_weight no_attributes = 0
  heading_weight (attribute n d rest) = domain_weight d + 1 + heading_weight rest

abbrev pub attributes_weight : List Attribute → ℕ
attributes_weight [] = 0
attributes_weight (a ∷ rest) = domain_weight a.domain + 1 + attributes_weight rest
