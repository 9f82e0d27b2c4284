-- The test whether two schemas are the same tells just that.
use Rattle.std.proofs.Common.{◌≡◌, ◌↔◌, ℕ, Bool, ◌&&◌, List, IsTrue, refl, ap, ◌∙◌}
use Rattle.std.specs.Bool.{Decides}
use Rattle.std.specs.Cmp.Lexicographic.{pointwise_decides, bytes_decides}
use Rattle.std.proofs.lemmas.Bool.{false≢true}
use Rattle.std.proofs.lemmas.Bool.Decides.{Decides-and, Decides-like, same_from_decides}
use Rattle.mk_value.specs.Names.{same_bytes}
use Rattle.mk_value.specs.Heading.{Domain, Heading, no_attributes, attribute, Attribute}
use Rattle.relations.specs.Equality.{same_domain, same_heading, same_schema}

inside : (h k : Heading) → Domain.relation h ≡ Domain.relation k → h ≡ k
inside h k e = cc

same_attribute : (n m : List ℕ) (d e : Domain) (rest others : Heading) → n ≡ m → d ≡ e → rest ≡ others → attribute n d rest ≡ attribute m e others
same_attribute n m d e rest others p q r = cc

first : (n m : List ℕ) (d e : Domain) (rest others : Heading) → attribute n d rest ≡ attribute m e others → n ≡ m
first n m d e rest others q = cc

second : (n m : List ℕ) (d e : Domain) (rest others : Heading) → attribute n d rest ≡ attribute m e others → d ≡ e
second n m d e rest others q = cc

third : (n m : List ℕ) (d e : Domain) (rest others : Heading) → attribute n d rest ≡ attribute m e others → rest ≡ others
third n m d e rest others q = cc

mutual
  same_domain_tells : (d e : Domain) → Decides (same_domain d e) (d ≡ e)
  same_domain_tells Domain.integer Domain.integer = (λ _. refl, λ _. refl)
  same_domain_tells Domain.integer Domain.long = (λ e. absurd (false≢true e), λ e. cc)
  same_domain_tells Domain.integer Domain.text = (λ e. absurd (false≢true e), λ e. cc)
  same_domain_tells Domain.integer Domain.bytes = (λ e. absurd (false≢true e), λ e. cc)
  same_domain_tells Domain.integer (Domain.relation k) = (λ e. absurd (false≢true e), λ e. cc)
  same_domain_tells Domain.long Domain.integer = (λ e. absurd (false≢true e), λ e. cc)
  same_domain_tells Domain.long Domain.long = (λ _. refl, λ _. refl)
  same_domain_tells Domain.long Domain.text = (λ e. absurd (false≢true e), λ e. cc)
  same_domain_tells Domain.long Domain.bytes = (λ e. absurd (false≢true e), λ e. cc)
  same_domain_tells Domain.long (Domain.relation k) = (λ e. absurd (false≢true e), λ e. cc)
  same_domain_tells Domain.text Domain.integer = (λ e. absurd (false≢true e), λ e. cc)
  same_domain_tells Domain.text Domain.long = (λ e. absurd (false≢true e), λ e. cc)
  same_domain_tells Domain.text Domain.text = (λ _. refl, λ _. refl)
  same_domain_tells Domain.text Domain.bytes = (λ e. absurd (false≢true e), λ e. cc)
  same_domain_tells Domain.text (Domain.relation k) = (λ e. absurd (false≢true e), λ e. cc)
  same_domain_tells Domain.bytes Domain.integer = (λ e. absurd (false≢true e), λ e. cc)
  same_domain_tells Domain.bytes Domain.long = (λ e. absurd (false≢true e), λ e. cc)
  same_domain_tells Domain.bytes Domain.text = (λ e. absurd (false≢true e), λ e. cc)
  same_domain_tells Domain.bytes Domain.bytes = (λ _. refl, λ _. refl)
  same_domain_tells Domain.bytes (Domain.relation k) = (λ e. absurd (false≢true e), λ e. cc)
  same_domain_tells (Domain.relation h) Domain.integer = (λ e. absurd (false≢true e), λ e. cc)
  same_domain_tells (Domain.relation h) Domain.long = (λ e. absurd (false≢true e), λ e. cc)
  same_domain_tells (Domain.relation h) Domain.text = (λ e. absurd (false≢true e), λ e. cc)
  same_domain_tells (Domain.relation h) Domain.bytes = (λ e. absurd (false≢true e), λ e. cc)
  same_domain_tells (Domain.relation h) (Domain.relation k) =
      let r = same_heading_tells h k in
      (λ e. ap Domain.relation (r.0 e), λ e. r.1 (inside h k e))

  same_heading_tells : (h k : Heading) → Decides (same_heading h k) (h ≡ k)
  same_heading_tells no_attributes no_attributes = (λ _. refl, λ _. refl)
  same_heading_tells no_attributes (attribute m e others) = (λ e. absurd (false≢true e), λ e. cc)
  same_heading_tells (attribute n d rest) no_attributes = (λ e. absurd (false≢true e), λ e. cc)
  same_heading_tells (attribute n d rest) (attribute m e others) =
      let names : Decides (same_bytes n m) (n ≡ m) = bytes_decides n m in
      let two = Decides-and (same_bytes n m) (same_domain d e) names (same_domain_tells d e) in
      let all = Decides-and (same_bytes n m && same_domain d e) (same_heading rest others) two (same_heading_tells rest others) in
      Decides-like _ (λ p. same_attribute n m d e rest others p.0.0 p.0.1 p.1) (λ q. ((first n m d e rest others q, second n m d e rest others q), third n m d e rest others q)) all

property_tells : (a b : Attribute) → Decides (same_bytes a.name b.name && same_domain a.domain b.domain) (a ≡ b)
property_tells a b =
    Decides-like _ (λ p. ap (λ n. record { name = n; domain = a.domain }) p.0 ∙ ap (λ (d : Domain). record { name = b.name; domain = d }) p.1) (λ e. (ap (λ (x : Attribute). x.name) e, ap (λ (x : Attribute). x.domain) e))
    (Decides-and (same_bytes a.name b.name) (same_domain a.domain b.domain) (bytes_decides a.name b.name) (same_domain_tells a.domain b.domain))

pub same_schema_tells : (p q : List Attribute) → Decides (same_schema p q) (p ≡ q)
same_schema_tells p q = pointwise_decides property_tells p q

-- an answer that tells whether two schemas are the same is the test's
pub same_schema_is : (r : Bool) (p q : List Attribute) → (IsTrue r ↔ (p ≡ q)) → r ≡ same_schema p q
same_schema_is r p q h = same_from_decides r (same_schema p q) (h.0, h.1) (same_schema_tells p q)
