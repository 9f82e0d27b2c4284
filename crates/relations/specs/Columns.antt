-- Properties of a table by their places.
use Rattle.std.specs.Prelude.{◌≡◌, ◌<◌, ℕ, suc, pos, if◌then◌else◌, List, [], ◌∷◌, length, map, slice_index_or, All}
use Rattle.mk_value.specs.Heading.{Domain, Attribute}
use Rattle.mk_value.specs.Data.{Datum, integer}
use Rattle.mk_value.specs.Tables.{domain_at}
use Rattle.relations.specs.Rows.{is_named}

-- the place of the property of a name, or the number of properties where there is none
abbrev pub column_of : List Attribute → List ℕ → ℕ
column_of [] name = 0
column_of (a ∷ schema) name = if is_named name a then 0 else suc (column_of schema name)

-- the values of a row in these columns
abbrev pub values_at : List ℕ → List Datum → List Datum
values_at columns row = map (λ j. slice_index_or row j (integer (pos 0))) columns

-- the properties in these columns
abbrev pub properties_at : List Attribute → List ℕ → List Attribute
properties_at schema columns = map (λ j. slice_index_or schema j (record { name = []; domain = Domain.integer })) columns

-- the properties stand in these columns of a schema under other names
pub record AreColumns (schema : List Attribute) (columns : List ℕ) (properties : List Attribute) : Type 0 where
  pub in_range : All (λ j. j < length schema) columns
  pub kinds : map (λ a. a.domain) properties ≡ map (λ j. domain_at schema j) columns
