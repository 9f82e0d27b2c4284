-- Tables: a schema and rows.
use Rattle.std.specs.Prelude.{ℕ, ℤ, pos, List, [], map, slice_index_or, refl}
use Rattle.std.specs.Coded.{Coded, code_by, coded×}
use Rattle.mk_value.specs.Heading.{Domain, Attribute, attributes_code}
use Rattle.mk_value.specs.Data.{Datum, integer, long, text, bytes}
use Rattle.mk_value.specs.DataCode.{rows_code}

-- a schema and the rows, in order
pub record Table : Type 0 where
  pub schema : List Attribute
  pub rows : List (List Datum)

abbrev pub table_code : Coded Table
table_code =
    code_by (List Attribute × List (List Datum)) (coded× attributes_code rows_code) (λ t. (t.schema, t.rows))
    (λ p. record { schema = p.0; rows = p.1 }) (λ _. refl)

-- the domain of a column, or that of the integers where there is none
abbrev pub domain_at : List Attribute → ℕ → Domain
domain_at schema column = (slice_index_or schema column (record { name = []; domain = Domain.integer })).domain

-- the values of the domain have an order: it is no relation
abbrev pub IsPlainDomain : Domain → Type 0
IsPlainDomain (Domain.relation h) = ⊥
IsPlainDomain _ = Unit {0}

-- the value may be compared with those of the domain: both are of one kind, which is no relation
abbrev pub IsComparable : Datum → Domain → Type 0
IsComparable (integer z) Domain.integer = Unit {0}
IsComparable (long z) Domain.long = Unit {0}
IsComparable (text content) Domain.text = Unit {0}
IsComparable (bytes content) Domain.bytes = Unit {0}
IsComparable _ _ = ⊥

-- the values of the domain are numbers
abbrev pub AreNumbers : Domain → Type 0
AreNumbers Domain.integer = Unit {0}
AreNumbers Domain.long = Unit {0}
AreNumbers _ = ⊥

-- the number that a value is, or 0 where it is none
abbrev pub number_in : Datum → ℤ
number_in (integer z) = z
number_in (long z) = z
number_in _ = pos 0

-- the numbers of a column, row by row
abbrev pub column_numbers : List (List Datum) → ℕ → List ℤ
column_numbers rows column = map (λ row. number_in (slice_index_or row column (integer (pos 0)))) rows
