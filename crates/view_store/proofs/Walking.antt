-- What is known along a path that no refusal ends, and one step of the walks.
use Rattle.std.proofs.Common.{◌≡◌, ℕ, ◌<◌, true, false, List, [], ◌∷◌, length, get_or, Option, Some, None, Result, Ok, Err, MatchResult, unwrap_or, refl, ap, sym, subst, ◌∙◌}
use Rattle.std.specs.Prelude.{IsOk}
use Rattle.std.proofs.lemmas.List.Quantifiers.{position-Some}
use Rattle.mk_value.specs.declared.path.Step.{Step}
use Rattle.mk_value.specs.Heading.{Domain, Heading, Attribute, attributes_of, heading_of, find}
use Rattle.mk_value.specs.Names.{same_bytes}
use Rattle.mk_value.proofs.Walks.{same_default}
use Rattle.mk_value.specs.Tables.{domain_at}
use Rattle.mk_value.proofs.Headings.{attributes_of-heading_of}
use Rattle.tables.specs.Tables.{place_of_property}
use Rattle.view_store.specs.Refusals.{in_view, in_property, schema_at}

-- one step further in the schema: the property is there and is a view of the inner schema
pub schema_at-step : (s : Step) (steps : List Step) (schema inner : List Attribute) (k : ℕ) → find schema s.prop ≡ Some k → domain_at schema k ≡ Domain.relation (heading_of inner)
    → schema_at (s ∷ steps) schema ≡ schema_at steps inner
schema_at-step s steps schema inner k e f =
    ap (λ o. in_property schema o (λ i. schema_at steps i)) e ∙ ap (λ d. in_view d (λ i. schema_at steps i)) f ∙ ap (λ i. schema_at steps i) (attributes_of-heading_of inner)

pub place_of_property-found : (schema : List Attribute) (name : List ℕ) (k : ℕ) → find schema name ≡ Some k → place_of_property schema name ≡ k
place_of_property-found schema name k e = ap (λ o. unwrap_or o 0) e

-- a property that was read is the schema's at its place, and one that is a view has the schema of its rows as its domain
pub domain_read : (schema : List Attribute) (k : ℕ) (a : Attribute) (d : Domain) → k < length schema → a ≡ get_or schema k a → d ≡ a.domain → domain_at schema k ≡ d
domain_read schema k a d p e f =
    ap (λ (b : Attribute). b.domain) (sym (e ∙ same_default schema k a (record { name = []; domain = Domain.integer }) p)) ∙ sym f

pub place_within : (schema : List Attribute) (name : List ℕ) (k : ℕ) → find schema name ≡ Some k → k < length schema
place_within schema name k e = (position-Some (λ a. same_bytes a.name name) schema k (record { name = []; domain = Domain.integer }) e).0

-- what a step whose schema is reached goes through
pub record Through (schema : List Attribute) (s : Step) (steps : List Step) : Type 0 where
  pub place : ℕ
  pub found : find schema s.prop ≡ Some place
  pub within : place < length schema
  pub inner : Heading
  pub view : domain_at schema place ≡ Domain.relation inner
  pub rest : schema_at (s ∷ steps) schema ≡ schema_at steps (attributes_of inner)

through_view : (schema : List Attribute) (s : Step) (steps : List Step) (k : ℕ) (d : Domain) → find schema s.prop ≡ Some k → domain_at schema k ≡ d → IsOk (in_view d (λ i. schema_at steps i)) → Through schema s steps
through_view schema s steps k Domain.integer e f h = absurd (let g : false ≡ true = h in cc)
through_view schema s steps k Domain.long e f h = absurd (let g : false ≡ true = h in cc)
through_view schema s steps k Domain.text e f h = absurd (let g : false ≡ true = h in cc)
through_view schema s steps k Domain.bytes e f h = absurd (let g : false ≡ true = h in cc)
through_view schema s steps k (Domain.relation inner) e f h = record {
  place = k;
  found = e;
  within = (position-Some (λ a. same_bytes a.name s.prop) schema k (record { name = []; domain = Domain.integer }) e).0;
  inner = inner;
  view = f;
  rest = ap (λ o. in_property schema o (λ i. schema_at steps i)) e ∙ ap (λ d. in_view d (λ i. schema_at steps i)) f;
}

through : (schema : List Attribute) (s : Step) (steps : List Step) (o : Option ℕ) → find schema s.prop ≡ o → IsOk (in_property schema o (λ i. schema_at steps i)) → Through schema s steps
through schema s steps None e h = absurd (let g : false ≡ true = h in cc)
through schema s steps (Some k) e h = through_view schema s steps k (domain_at schema k) e refl h

pub goes_through : (schema : List Attribute) (s : Step) (steps : List Step) → IsOk (schema_at (s ∷ steps) schema) → Through schema s steps
goes_through schema s steps h = through schema s steps (find schema s.prop) refl h

-- an answer to a walk is one to the walk from the next step
pub same_answer : {X Y E : Type 0} (result : Result Y E) (f : Y → X) (a b : Result X E) → a ≡ b → MatchResult result (λ y. b ≡ Ok (f y)) (λ e. b ≡ Err e) → MatchResult result (λ y. a ≡ Ok (f y)) (λ e. a ≡ Err e)
same_answer (Ok y) f a b e h = e ∙ h
same_answer (Err x) f a b e h = e ∙ h

pub IsOk-same : {X E : Type 0} (a b : Result X E) → a ≡ b → IsOk a → IsOk b
IsOk-same a b e h = subst IsOk e h
