-- The length of a structure text.
use Rattle.std.proofs.Common.{◌≡◌, ℕ, ◌+◌, ◌<◌, ◌≤◌, List, [], ◌∷◌, ◌++◌, length, refl, subst, sym, arith}
use Rattle.std.proofs.lemmas.List.{length-append}
use Rattle.mk_value.specs.Heading.{Domain, Heading, no_attributes, attribute, Attribute, attributes_of, heading_of, IsDomain, AreAttributes, IsHeading}
use Rattle.mk_value.proofs.Headings.{AreAttributes-heading_of, attributes_of-heading_of}
use Rattle.struct_text.specs.Bytes.{open_bracket, close_bracket, comma}
use Rattle.struct_text.specs.Spelling.{spelled_domain, spelled_properties, spelling}
use Rattle.struct_text.specs.Lengths.{domain_length, properties_length, structure_length}

brackets : (inside : List ℕ) → length (open_bracket ∷ (inside ++ close_bracket ∷ [])) ≡ length inside + 2
brackets inside = let e = length-append inside (close_bracket ∷ []) in omega (arith, e)

-- how many bytes stand behind a property: those of the others, with a comma before them
abbrev behind : Heading → ℕ
behind no_attributes = 0
behind (attribute n d rest) = length (spelled_properties (attribute n d rest)) + 1

properties_cons : (n : List ℕ) (d : Domain) (rest : Heading) → length (spelled_properties (attribute n d rest)) ≡ length n + length (spelled_domain d) + behind rest
properties_cons n d no_attributes = let joined = length-append n (spelled_domain d) in omega (arith, joined)
properties_cons n d (attribute m e rest) =
    let others : List ℕ = comma ∷ spelled_properties (attribute m e rest) in
    let joined = length-append n (spelled_domain d ++ others) in
    let tail = length-append (spelled_domain d) others in omega (arith, joined, tail)

behind_some : (h : Heading) → 0 < length (attributes_of h) → behind h ≡ length (spelled_properties h) + 1
behind_some no_attributes some = absurd (omega (arith, some))
behind_some (attribute n d rest) some = refl

mutual
  domain_is : (d : Domain) → IsDomain d → domain_length d ≡ length (spelled_domain d)
  domain_is Domain.integer whole = omega arith
  domain_is Domain.long whole = omega arith
  domain_is Domain.text whole = omega arith
  domain_is Domain.bytes whole = omega arith
  domain_is (Domain.relation h) whole =
      let inside = properties_are h whole.1 in
      let some = behind_some h whole.0.some in
      let around = brackets (spelled_properties h) in omega (arith, inside, some, around)

  properties_are : (h : Heading) → AreAttributes h → properties_length h ≡ behind h + 1
  properties_are no_attributes whole = omega arith
  properties_are (attribute n d rest) whole =
      let first = domain_is d whole.1 in
      let others = properties_are rest whole.2 in
      let joined = properties_cons n d rest in omega (arith, first, others, joined)

-- the length of a structure text is that of its spelling
pub structure_is : (name : List ℕ) (schema : List Attribute) → IsHeading schema → structure_length name schema ≡ length (spelling name schema)
structure_is name schema whole =
    let h = heading_of schema in
    let inside = properties_are h (AreAttributes-heading_of schema whole.attributes) in
    let some : behind h ≡ length (spelled_properties h) + 1 = behind_some h (subst (λ ps. 0 < length ps) (sym (attributes_of-heading_of schema)) whole.limits.some) in
    let around = brackets (spelled_properties h) in
    let joined = length-append name (open_bracket ∷ (spelled_properties h ++ close_bracket ∷ [])) in
    omega (arith, inside, some, around, joined)

-- it is some bytes long
pub spelling_some : (name : List ℕ) (schema : List Attribute) → 2 ≤ length (spelling name schema)
spelling_some name schema =
    let around = brackets (spelled_properties (heading_of schema)) in
    let joined = length-append name (open_bracket ∷ (spelled_properties (heading_of schema) ++ close_bracket ∷ [])) in
    omega (arith, around, joined)
