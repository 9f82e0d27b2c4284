-- One step of a way.
use Rattle.std.proofs.Common.{◌≡◌, ℕ, List, ◌∷◌, Some, Result, Ok, Err, MatchResult, ap, ◌∙◌}
use Rattle.mk_value.specs.declared.path.Step.{Step}
use Rattle.mk_value.specs.Heading.{Domain, Attribute, find, heading_of}
use Rattle.mk_value.specs.Tables.{domain_at}
use Rattle.mk_value.proofs.Headings.{attributes_of-heading_of}
use Rattle.eval.specs.Names.{continued, inside, inside_property, schema_at}
use Rattle.eval.specs.declared.error.NameError.{NameError}

-- the property is there and is a view of the inner schema
pub one_step : (s : Step) (steps : List Step) (schema inner : List Attribute) (k : ℕ) → find schema s.prop ≡ Some k → domain_at schema k ≡ Domain.relation (heading_of inner)
    → schema_at (s ∷ steps) schema ≡ schema_at steps inner
one_step s steps schema inner k e f =
    ap (λ o. continued (inside_property schema o) (λ i. schema_at steps i)) e ∙ ap (λ d. continued (inside d) (λ i. schema_at steps i)) f
    ∙ ap (λ i. schema_at steps i) (attributes_of-heading_of inner)

-- a call that answers one of two that are the same answers the other
pub same_answer : {R X : Type 0} (r : Result R NameError) (see : R → X) (due due' : Result X NameError) → due ≡ due'
    → MatchResult r (λ x. due' ≡ Ok (see x)) (λ e. due' ≡ Err e) → MatchResult r (λ x. due ≡ Ok (see x)) (λ e. due ≡ Err e)
same_answer (Ok x) see due due' e h = e ∙ h
same_answer (Err x) see due due' e h = e ∙ h
