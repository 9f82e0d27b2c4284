-- Tables without some of their properties.
use Rattle.std.proofs.Common.{◌≡◌, ℕ, ◌<◌, false, not, List, [], ◌∷◌, length, get_or, map, All, Option, Some, None, refl, ap, sym, subst, ◌∙◌, arith}
use Rattle.std.specs.List.{list_any, slice_get}
use Rattle.std.proofs.lemmas.Bool.{false≢true}
use Rattle.mk_value.specs.Heading.{Attribute, IsHeading}
use Rattle.relations.specs.Columns.{column_of, properties_at}
use Rattle.relations.specs.Rows.{is_among, others}
use Rattle.relations.specs.Refusals.{absent, none_left}
use Rattle.derived.specs.Refusals.{without_due}
use Rattle.relations.specs.declared.error.DerivedError.{DerivedError}
use Rattle.std.specs.Option.{option_or}
use Rattle.std.proofs.lemmas.Option.{none-some}
use Rattle.relations.proofs.Headings.{heading_of_names, others_here, others_distinct}
use Rattle.relations.proofs.Projections.{columns_in, properties_here}

second : (a b : Option DerivedError) → option_or a (option_or b None) ≡ None → b ≡ None
second None None h = refl
second None (Some e) h = h
second (Some e) b h = absurd (none-some _ (sym h))

some_left : (names : List (List ℕ)) (given : List (List ℕ)) → none_left names given ≡ None → 0 < length names
some_left [] given h = absurd (none-some _ (sym h))
some_left (name ∷ names) given h = omega arith

pub others_whole : (schema s : List Attribute) (names : List (List ℕ)) (columns : List ℕ) → s ≡ schema → IsHeading schema → without_due names schema ≡ None → columns ≡ map (column_of schema) (others schema names)
    → IsHeading (properties_at s columns) × All (λ j. j < length s) columns
others_whole schema s names columns same whole h e =
    let here = others_here schema names in
    let P : List Attribute → Type 0 = λ x. IsHeading (properties_at x columns) × All (λ j. j < length x) columns in
    subst P (sym same) (
      subst IsHeading (sym (ap (properties_at schema) e ∙ properties_here schema (others schema names) here))
          (heading_of_names schema (others schema names) whole here (others_distinct schema names whole.limits.distinct) (some_left (others schema names) names (second (absent schema names) (none_left (others schema names) names) h))),
      subst (All (λ j. j < length schema)) (sym e) (columns_in schema (others schema names) here),
    )

-- where no name is given every property is left
pub given_some : (schema : List Attribute) (names : List (List ℕ)) → 0 < length schema → list_any (λ (a : Attribute). not (is_among names a.name)) schema ≡ false → 0 < length names
given_some [] names p h = absurd (omega arith)
given_some (a ∷ schema) [] p h = absurd (false≢true (sym h))
given_some (a ∷ schema) (name ∷ names) p h = omega arith

pub first_none : (names : List (List ℕ)) → None ≡ slice_get names 0 → 0 < length names → ⊥
first_none [] h p = omega arith
first_none (name ∷ names) h p = none-some _ h

pub first_some : (names : List (List ℕ)) (name : List ℕ) → Some name ≡ slice_get names 0 → get_or names 0 [] ≡ name
first_some [] name h = absurd (none-some _ (sym h))
first_some (first ∷ names) name h = cc
