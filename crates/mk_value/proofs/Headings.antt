-- Schemas as lists and as plain data: each form gives back the other, and what is inside is whole and smaller.
use Rattle.std.proofs.Common.{◌≡◌, ℕ, zero, suc, ◌+◌, ◌<◌, ◌≤◌, List, [], ◌∷◌, length, get_or, All, refl, ap, sym, subst, ◌∙◌, arith}
use Rattle.std.proofs.lemmas.List.Elements.{All-cons, All-head, All-tail}
use Rattle.mk_value.specs.Heading.{Domain, relation, Heading, no_attributes, attribute, Attribute, attributes_of, heading_of, IsWithinLimits, IsDomain, AreAttributes, IsAttribute, IsHeading, domain_weight, heading_weight, attributes_weight}
use Rattle.std.proofs.Common.{◌≢◌, Bool, true, false, ◌++◌, suc, take}
use Rattle.std.specs.List.{list_any}
use Rattle.std.specs.Cmp.Lexicographic.{same_text, nat_list_eq_equiv}
use Rattle.std.proofs.lemmas.List.{take_more, get_or-take, length-take-le}
use Rattle.std.proofs.lemmas.Bool.{false≢true}
use Rattle.std.proofs.lemmas.List.Quantifiers.{all_pairs_push}
use Rattle.std.proofs.lemmas.List.Folds.{list_any_at, Any-from_list_any}
use Rattle.mk_value.specs.Names.{same_bytes}
use Rattle.mk_value.specs.Heading.{HaveDistinctNames}
use Rattle.mk_value.proofs.Walks.{same_default}

pub attributes_of-heading_of : (properties : List Attribute) → attributes_of (heading_of properties) ≡ properties
attributes_of-heading_of [] = refl
attributes_of-heading_of (a ∷ rest) = ap (λ as'. a ∷ as') (attributes_of-heading_of rest)

pub heading_of-attributes_of : (h : Heading) → heading_of (attributes_of h) ≡ h
heading_of-attributes_of no_attributes = refl
heading_of-attributes_of (attribute n d rest) = ap (λ h. attribute n d h) (heading_of-attributes_of rest)

-- two schemas with the same relation are the same
pub heading_of-injective : (p q : List Attribute) → heading_of p ≡ heading_of q → p ≡ q
heading_of-injective p q e = sym (attributes_of-heading_of p) ∙ ap attributes_of e ∙ attributes_of-heading_of q

pub AreAttributes-heading_of : (properties : List Attribute) → All IsAttribute properties → AreAttributes (heading_of properties)
AreAttributes-heading_of [] whole = tt
AreAttributes-heading_of (a ∷ rest) whole =
    let first = All-head IsAttribute a rest whole in
    (first.name, first.domain, AreAttributes-heading_of rest (All-tail IsAttribute a rest whole))

pub All-attributes_of : (h : Heading) → AreAttributes h → All IsAttribute (attributes_of h)
All-attributes_of no_attributes whole = λ k d p. absurd (omega arith)
All-attributes_of (attribute n d rest) whole =
    All-cons IsAttribute _ (attributes_of rest) (record { name = whole.0; domain = whole.1 }) (All-attributes_of rest whole.2)

-- a whole schema makes a whole kind, and a whole kind has a whole schema
pub view_is_domain : (properties : List Attribute) → IsHeading properties → IsDomain (relation (heading_of properties))
view_is_domain properties whole =
    (subst IsWithinLimits (sym (attributes_of-heading_of properties)) whole.limits, AreAttributes-heading_of properties whole.attributes)

pub IsHeading-relation : (h : Heading) → IsDomain (relation h) → IsHeading (attributes_of h)
IsHeading-relation h whole = record { limits = whole.0; attributes = All-attributes_of h whole.1 }

pub heading_weight-heading_of : (properties : List Attribute) → heading_weight (heading_of properties) ≡ attributes_weight properties
heading_weight-heading_of [] = refl
heading_weight-heading_of (a ∷ rest) = let e = heading_weight-heading_of rest in omega (arith, e)

-- a property weighs less than its schema
pub attributes_weight-at : (properties : List Attribute) (i : ℕ) (d : Attribute) → i < length properties → domain_weight (get_or properties i d).domain + 1 ≤ attributes_weight properties
attributes_weight-at [] i d p = absurd (omega arith)
attributes_weight-at (a ∷ rest) zero d p = omega arith
attributes_weight-at (a ∷ rest) (suc i) d p = omega (arith, attributes_weight-at rest i d (omega arith))

-- the same of a property that was read from the list
pub weight_read : (properties : List Attribute) (i : ℕ) (x : Attribute) → i < length properties → x ≡ get_or properties i x → domain_weight x.domain + 1 ≤ attributes_weight properties
weight_read properties i x p e =
    let at = ap (λ (a : Attribute). domain_weight a.domain) e in
    omega (arith, at, attributes_weight-at properties i x p)

-- two relations are the same where their schemas are
pub same_relation : (p q : List Attribute) (d e : Domain) → d ≡ relation (heading_of p) → e ≡ relation (heading_of q) → d ≡ e → p ≡ q
same_relation p q d e f g h = heading_of-injective p q (let r : relation (heading_of p) ≡ relation (heading_of q) = sym f ∙ h ∙ g in cc)

same_bytes_true : (xs ys : List ℕ) → xs ≡ ys → same_bytes xs ys ≡ true
same_bytes_true xs ys e = subst (λ zs. same_bytes xs zs ≡ true) e (nat_list_eq_equiv.refl xs)

-- one property further where no two so far have one name
pub distinct_more : (properties : List Attribute) (i : ℕ) (x : Attribute) (n : List ℕ) (found : Bool) → i < length properties → x ≡ get_or properties i x → n ≡ x.name
    → found ≡ list_any (λ a. same_bytes a.name n) (take i properties) → found ≡ false → HaveDistinctNames (take i properties) → HaveDistinctNames (take (i + 1) properties)
distinct_more properties i x n found p e name any none before =
    subst HaveDistinctNames (sym (take_more properties i x p ∙ ap (λ y. take i properties ++ (y ∷ [])) (sym e)))
    (all_pairs_push (λ a b. a.name ≢ b.name) (take i properties) x before (λ k d q same.
    let yes : list_any (λ a. same_bytes a.name n) (take i properties) ≡ true =
    list_any_at (λ a. same_bytes a.name n) (take i properties) k d q (same_bytes_true (get_or (take i properties) k d).name n (same ∙ sym name)) in
    false≢true (sym none ∙ any ∙ yes)))

pub distinct_no : (properties : List Attribute) (i : ℕ) (x : Attribute) (n : List ℕ) (found : Bool) → i < length properties → x ≡ get_or properties i x → n ≡ x.name
    → found ≡ list_any (λ a. same_bytes a.name n) (take i properties) → found ≡ true → HaveDistinctNames properties → ⊥
distinct_no properties i x n found p e name any some distinct =
    let hit = Any-from_list_any (λ a. same_bytes a.name n) (take i properties) (sym any ∙ some) in
    let k = hit.0 in
    let a = hit.1 in
    let below : k < i = omega (arith, length-take-le i properties (omega arith), hit.2) in
    let at : get_or properties k x ≡ a = sym (get_or-take i properties k x below) ∙ same_default (take i properties) k x a hit.2 ∙ hit.3 in
    distinct k i x below p (ap (λ (b : Attribute). b.name) at ∙ same_text a.name n (sym hit.4) ∙ name ∙ ap (λ (b : Attribute). b.name) e)
