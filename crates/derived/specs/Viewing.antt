-- Operators that ask a function of rows: of each the schema and the rows, and the refusals that it is due.
use Rattle.std.specs.Prelude.{ℕ, ℤ, pos, not, ◌==◌, if◌then◌else◌, List, [], ◌∷◌, ◌++◌, length, map, filter, Option, Some, None}
use Rattle.mk_value.specs.Heading.{Domain, Attribute}
use Rattle.mk_value.specs.Data.{Datum, long}
use Rattle.mk_value.specs.Tables.{Table}
use Rattle.relations.specs.declared.error.DerivedError.{DerivedError}
use Rattle.relations.specs.declared.error.DerivedError.TheVariants.{NameTaken, WrongKind}
use Rattle.relations.specs.Equality.{same_domain}
use Rattle.relations.specs.Refusals.{absent, first_of, too_wide, where_so}
use Rattle.relations.specs.Rows.{domain_of, has, values_of}
use Rattle.derived.specs.Operators.{with_rows}
use Rattle.derived.specs.Refusals.{is_zero}

-- each row with a last property NEW of kind L: what the function gives on the row's values for these names. They are no keys: a name that
-- is given twice is an argument twice
abbrev pub calc : (List Datum → ℤ) → List (List ℕ) → List ℕ → Table → Table
calc gives args new t = record {
  schema = t.schema ++ record { name = new; domain = Domain.long } ∷ [];
  rows = map (λ row. row ++ long (gives (values_of t.schema args row)) ∷ []) t.rows;
}

-- the rows on which the function does not give 0, in base order
abbrev pub keep : (List Datum → ℤ) → List (List ℕ) → Table → Table
keep gives args t = with_rows t (filter (λ row. not (is_zero (gives (values_of t.schema args row)))) t.rows)

-- the first argument that is not of the kind that is taken in its place
abbrev pub of_other_kind : List Domain → List Attribute → List (List ℕ) → Option DerivedError
of_other_kind (e ∷ takes) schema (arg ∷ args) =
    if same_domain (domain_of schema arg) e then of_other_kind takes schema args else Some (WrongKind arg)
of_other_kind takes schema args = None

-- another number of arguments than the viewer of this name takes, or one of another kind
abbrev pub not_taken : List ℕ → List Domain → List Attribute → List (List ℕ) → Option DerivedError
not_taken viewer takes schema args =
    if length args == length takes then of_other_kind takes schema args else Some (WrongKind viewer)

abbrev pub calc_due : List ℕ → List Domain → List (List ℕ) → List ℕ → Table → Option DerivedError
calc_due viewer takes args new t =
    first_of (
    where_so (has t.schema new) (NameTaken new) ∷ absent t.schema args ∷ not_taken viewer takes t.schema args
    ∷ too_wide (calc (λ row. pos 0) args new t) ∷ [])

abbrev pub keep_due : List ℕ → List Domain → List (List ℕ) → List Attribute → Option DerivedError
keep_due viewer takes args schema = first_of (absent schema args ∷ not_taken viewer takes schema args ∷ [])
