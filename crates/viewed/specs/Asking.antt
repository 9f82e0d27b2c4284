-- What a viewer is asked of the rows of a table: their values in some columns.
use Rattle.std.specs.Prelude.{◌≡◌, ◌<◌, ℕ, ℤ, Bool, not, List, [], ◌∷◌, ◌++◌, length, map, All}
use Rattle.mk_value.specs.Heading.{Domain, Attribute}
use Rattle.mk_value.specs.Data.{Datum, long}
use Rattle.mk_value.specs.Tables.{domain_at}
use Rattle.derived.specs.Refusals.{is_zero}
use Rattle.relations.specs.Columns.{values_at}

-- the columns of a schema whose values are of these domains
pub record AreAsked (schema : List Attribute) (takes : List Domain) (columns : List ℕ) : Type 0 where
  pub in_range : All (λ j. j < length schema) columns
  pub kinds : map (λ j. domain_at schema j) columns ≡ takes

-- the answer for a row
abbrev pub asked : (List Datum → ℤ) → List ℕ → List Datum → ℤ
asked gives columns row = gives (values_at columns row)

-- a row with the answer behind it
abbrev pub answered : (List Datum → ℤ) → List ℕ → List Datum → List Datum
answered gives columns row = row ++ long (asked gives columns row) ∷ []

-- the answer for a row is not 0
abbrev pub is_kept : (List Datum → ℤ) → List ℕ → List Datum → Bool
is_kept gives columns row = not (is_zero (asked gives columns row))
