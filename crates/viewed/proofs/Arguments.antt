-- The values that a viewer is asked of are of the kinds that it takes.
use Rattle.std.proofs.Common.{◌≡◌, ◌↔◌, IsTrue, ℕ, ◌<◌, Bool, true, false, ◌&&◌, List, [], ◌∷◌, length, map, All, Option, Some, None, refl, ap, sym, subst, ◌∙◌, arith, if◌then◌else◌}
use Rattle.std.specs.List.{AllZip}
use Rattle.std.proofs.lemmas.Option.{none-some}
use Rattle.std.proofs.lemmas.List.Elements.{All-head, All-tail}
use Rattle.mk_value.specs.Heading.{Domain, Attribute}
use Rattle.mk_value.specs.Data.{Datum, IsOf, IsRowOf}
use Rattle.mk_value.specs.Tables.{domain_at}
use Rattle.derived.specs.Viewing.{of_other_kind}
use Rattle.relations.specs.Columns.{column_of, values_at}
use Rattle.relations.specs.Equality.{same_domain}
use Rattle.relations.specs.Rows.{domain_of, has, values_of}
use Rattle.relations.specs.declared.error.DerivedError.{DerivedError}
use Rattle.relations.specs.declared.error.DerivedError.TheVariants.{WrongKind}
use Rattle.relations.proofs.Asking.{domain_here}
use Rattle.mk_value.proofs.Cells.{value_is_of}
use Rattle.relations.proofs.Names.{value_at_column}
use Rattle.relations.proofs.Projections.{columns_in}
use Rattle.relations.proofs.SameSchemas.{same_schema_is, same_schema_tells}
use Rattle.viewers.specs.Laws.{AreArguments}
use Rattle.viewed.specs.Asking.{AreAsked}

-- the values of a row in columns of its schema are of the columns' domains
values_fit : (schema : List Attribute) (columns : List ℕ) (row : List Datum) → All (λ j. j < length schema) columns → IsRowOf row schema
    → AllZip IsOf (values_at columns row) (map (λ j. domain_at schema j) columns)
values_fit schema [] row all whole = tt
values_fit schema (j ∷ columns) row all whole =
    (value_is_of row schema j whole (All-head (λ j. j < length schema) j columns all), values_fit schema columns row (All-tail (λ j. j < length schema) j columns all) whole)

pub arguments : (schema : List Attribute) (takes : List Domain) (columns : List ℕ) (row : List Datum) → AreAsked schema takes columns → IsRowOf row schema → AreArguments takes (values_at columns row)
arguments schema takes columns row asked whole = subst (λ ds. AllZip IsOf (values_at columns row) ds) asked.kinds (values_fit schema columns row asked.in_range whole)

-- by name and by column a row has the same values
values_here : (schema : List Attribute) (names : List (List ℕ)) (row : List Datum) → All (λ name. has schema name ≡ true) names → values_at (map (column_of schema) names) row ≡ values_of schema names row
values_here schema [] row all = refl
values_here schema (name ∷ names) row all =
    let first = value_at_column schema row name (All-head (λ name. has schema name ≡ true) name names all) in
    let rest = values_here schema names row (All-tail (λ name. has schema name ≡ true) name names all) in
    cc

pub values_are : (schema : List Attribute) (names : List (List ℕ)) (columns : List ℕ) → All (λ name. has schema name ≡ true) names → columns ≡ map (column_of schema) names → values_at columns ≡ values_of schema names
values_are schema names columns all e = λ i row. (ap (λ cs. values_at cs row) e ∙ values_here schema names row all) i

-- the test of two domains tells whether they are the same
and_true : (b : Bool) → (b && true) ≡ b
and_true true = refl
and_true false = refl

alone : Domain → List Attribute
alone d = record { name = []; domain = d } ∷ []

first_domain : List Attribute → Domain
first_domain [] = Domain.integer
first_domain (a ∷ schema) = a.domain

pub equal_domains : (d e : Domain) → same_domain d e ≡ true → d ≡ e
unfolding alone first_domain
equal_domains d e h = ap first_domain ((same_schema_tells (alone d) (alone e)).0 (and_true (same_domain d e) ∙ h))

pub same_domain_is : (r : Bool) (d e : Domain) → (IsTrue r ↔ (d ≡ e)) → r ≡ same_domain d e
unfolding alone first_domain
same_domain_is r d e h = same_schema_is r (alone d) (alone e) (λ t. ap alone (h.0 t), λ same. h.1 (ap first_domain same)) ∙ and_true (same_domain d e)

-- where no argument is of another kind, their columns are of the kinds that are taken
first_taken : (b : Bool) (e : DerivedError) (o : Option DerivedError) → (if b then o else Some e) ≡ None → (b ≡ true) × (o ≡ None)
first_taken true e o h = (refl, h)
first_taken false e o h = absurd (none-some _ (sym h))

kinds_taken : (takes : List Domain) (schema : List Attribute) (args : List (List ℕ)) → All (λ name. has schema name ≡ true) args → length args ≡ length takes → of_other_kind takes schema args ≡ None
    → map (λ j. domain_at schema j) (map (column_of schema) args) ≡ takes
kinds_taken [] schema [] all long none = refl
kinds_taken [] schema (arg ∷ args) all long none = absurd (omega arith)
kinds_taken (e ∷ takes) schema [] all long none = absurd (omega arith)
kinds_taken (e ∷ takes) schema (arg ∷ args) all long none =
    let both = first_taken (same_domain (domain_of schema arg) e) (WrongKind arg) (of_other_kind takes schema args) none in
    let first = domain_here schema arg (All-head (λ name. has schema name ≡ true) arg args all) ∙ equal_domains (domain_of schema arg) e both.0 in
    let rest = kinds_taken takes schema args (All-tail (λ name. has schema name ≡ true) arg args all) (omega arith) both.1 in
    cc

pub are_asked : (schema : List Attribute) (takes : List Domain) (args : List (List ℕ)) (columns : List ℕ) → All (λ name. has schema name ≡ true) args → length args ≡ length takes → of_other_kind takes schema args ≡ None
    → columns ≡ map (column_of schema) args → AreAsked schema takes columns
are_asked schema takes args columns all long none e =
    subst (AreAsked schema takes) (sym e) (record { in_range = columns_in schema args all; kinds = kinds_taken takes schema args all long none })
