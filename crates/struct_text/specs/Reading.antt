-- What the parser's parts find, in terms of its walk.
use Rattle.std.specs.Prelude.{true, false, ◌≡◌, ◌⊎◌, ℕ, ◌+◌, ◌<◌, ◌≤◌, List, [], ◌∷◌, ◌++◌, length, drop, Contains, AllPairs, ◌≢◌, Some, None, flat_map}
use Rattle.mk_value.specs.Limits.{max_properties, max_depth}
use Rattle.mk_value.specs.Names.{IsName}
use Rattle.mk_value.specs.Heading.{Domain, Attribute, names_of, heading_of, domain_depth, heading_depth, IsDomain, IsHeading}
use Rattle.struct_text.specs.Bytes.{close_bracket, colon, comma, is_plain_letter, is_floating_letter}
use Rattle.struct_text.specs.Spelling.{spelled_domain, spelled_properties}
use Rattle.struct_text.specs.Offences.{name_at}
use Rattle.struct_text.specs.declared.error.StructError.{StructError}
use Rattle.struct_text.specs.declared.error.StructError.TheVariants.{Memory}
use Rattle.struct_text.specs.Walk.{Brackets, State, name_start, in_name, kind, after}
use Rattle.struct_text.specs.Flaws.{flaw, first_flaw}

-- From a state at one place the walk comes to another state at another place, with no flaw between.
abbrev pub Reaches : List ℕ → State → ℕ → State → ℕ → Type 0
Reaches bytes s at t end = first_flaw s at (drop at bytes) ≡ first_flaw t end (drop end bytes)

-- From a state at a place on, this is the first flaw.
abbrev pub FailsWith : List ℕ → State → ℕ → StructError → Type 0
FailsWith bytes s at e = first_flaw s at (drop at bytes) ≡ Some e

-- the byte at the place is this one
abbrev pub HasByte : List ℕ → ℕ → ℕ → Type 0
HasByte bytes at byte = drop at bytes ≡ byte ∷ drop (at + 1) bytes

-- The name at the place may stand there, behind properties of the names before.
pub record IsNameAt (bytes : List ℕ) (at : ℕ) (before : List (List ℕ)) (name : List ℕ) : Type 0 where
  pub is : name ≡ name_at bytes at
  pub valid : IsName name
  pub few : length before < max_properties
  pub fresh : Contains before name → ⊥
  pub clean : (outer : Brackets) → flaw (name_start (before ∷ outer)) (drop at bytes) at ≡ None

abbrev pub RefusesName : List ℕ → ℕ → List (List ℕ) → StructError → Type 0
RefusesName bytes at before e = (outer : Brackets) → flaw (name_start (before ∷ outer)) (drop at bytes) at ≡ Some e

-- The letter is that of this domain.
pub record IsLetterOf (letter : ℕ) (domain : Domain) : Type 0 where
  pub plain : is_plain_letter letter ≡ true
  pub fixed : is_floating_letter letter ≡ false
  pub spelled : spelled_domain domain ≡ colon ∷ letter ∷ []
  pub whole : IsDomain domain
  pub flat : domain_depth domain ≡ 0

-- The letter of this domain stands at the place.
pub record IsLetterAt (bytes : List ℕ) (at : ℕ) (domain : Domain) : Type 0 where
  pub within : at < length bytes
  pub spelled : colon ∷ drop at bytes ≡ spelled_domain domain ++ drop (at + 1) bytes
  pub reaches : (brackets : Brackets) → Reaches bytes (kind brackets) at (after brackets) (at + 1)
  pub whole : IsDomain domain
  pub flat : domain_depth domain ≡ 0

abbrev pub RefusesLetter : List ℕ → ℕ → StructError → Type 0
RefusesLetter bytes at e = (brackets : Brackets) → FailsWith bytes (kind brackets) at e

-- The spelling of this domain stands from one place to another, behind the name of a property at this depth.
pub record IsKindAt (bytes : List ℕ) (at depth : ℕ) (domain : Domain) (end : ℕ) : Type 0 where
  pub forward : at < end
  pub within : end ≤ length bytes
  pub spelled : drop at bytes ≡ spelled_domain domain ++ drop end bytes
  pub reaches : (name : List ℕ) (names : List (List ℕ)) (outer : Brackets) → length outer + 1 ≡ depth
      → Reaches bytes (in_name name (names ∷ outer)) at (after ((names ++ name ∷ []) ∷ outer)) end
  pub whole : IsDomain domain
  pub shallow : domain_depth domain + depth ≤ max_depth

abbrev pub RefusesKind : List ℕ → ℕ → ℕ → StructError → Type 0
RefusesKind bytes at depth e = (e ≡ Memory)
    ⊎ ((name : List ℕ) (names : List (List ℕ)) (outer : Brackets) → length outer + 1 ≡ depth → FailsWith bytes (in_name name (names ∷ outer)) at e)

-- The spelling of one more property stands from one place to another.
pub record AddsProperty (bytes : List ℕ) (at depth : ℕ) (old new : List Attribute) (property : Attribute) (end : ℕ) : Type 0 where
  pub added : new ≡ old ++ property ∷ []
  pub forward : at < end
  pub within : end ≤ length bytes
  pub spelled : drop at bytes ≡ property.name ++ (spelled_domain property.domain ++ drop end bytes)
  pub reaches : (outer : Brackets) → length outer + 1 ≡ depth → Reaches bytes (name_start (names_of old ∷ outer)) at (after (names_of new ∷ outer)) end
  pub few : length old < max_properties
  pub fresh : Contains (names_of old) property.name → ⊥
  pub shallow : domain_depth property.domain + depth ≤ max_depth

abbrev pub RefusesProperty : List ℕ → ℕ → ℕ → List Attribute → StructError → Type 0
RefusesProperty bytes at depth before e = (e ≡ Memory) ⊎ ((outer : Brackets) → length outer + 1 ≡ depth → FailsWith bytes (name_start (names_of before ∷ outer)) at e)

-- each property with a comma behind it
abbrev pub spelled_list : List Attribute → List ℕ
spelled_list properties = flat_map (λ a. a.name ++ (spelled_domain a.domain ++ comma ∷ [])) properties

-- These properties, each with its comma, stand from the start to the place, in brackets of this depth.
pub record IsReadTo (bytes : List ℕ) (start depth : ℕ) (properties : List Attribute) (at : ℕ) : Type 0 where
  pub within : at ≤ length bytes
  pub forward : start ≤ at
  pub spelled : drop start bytes ≡ spelled_list properties ++ drop at bytes
  pub reaches : (outer : Brackets) → length outer + 1 ≡ depth → Reaches bytes (name_start ([] ∷ outer)) start (name_start (names_of properties ∷ outer)) at
  pub few : length properties ≤ max_properties
  pub distinct : AllPairs (λ a b. a.name ≢ b.name) properties
  pub shallow : heading_depth (heading_of properties) + depth ≤ max_depth

-- These properties and a closing bracket stand from the start to the place.
pub record ArePropertiesAt (bytes : List ℕ) (start depth : ℕ) (properties : List Attribute) (end : ℕ) : Type 0 where
  pub forward : start < end
  pub within : end ≤ length bytes
  pub spelled : drop start bytes ≡ spelled_properties (heading_of properties) ++ (close_bracket ∷ drop end bytes)
  pub reaches : (outer : Brackets) → length outer + 1 ≡ depth → Reaches bytes (name_start ([] ∷ outer)) start (after outer) end
  pub whole : IsHeading properties
  pub shallow : heading_depth (heading_of properties) + depth ≤ max_depth
