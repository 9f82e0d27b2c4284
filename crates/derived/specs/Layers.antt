-- What a contract sees of a derived table.
use Rattle.std.specs.Prelude.{ℕ, List, refl}
use Rattle.std.specs.Coded.{Coded, code_by, coded×, coded_ℕ}
use Rattle.mk_value.specs.Heading.{Attribute, attributes_code}
use Rattle.mk_value.specs.Data.{Datum}
use Rattle.mk_value.specs.DataCode.{rows_code}
use Rattle.mk_value.specs.Tables.{Table}

-- a schema and the rows, in order; and the number of derived tables that lie one below another in it, which no operator looks at
pub record Layered : Type 0 where
  pub schema : List Attribute
  pub rows : List (List Datum)
  pub layers : ℕ

abbrev pub layered_code : Coded Layered
layered_code =
    code_by (List Attribute × (List (List Datum) × ℕ)) (coded× attributes_code (coded× rows_code coded_ℕ))
    (λ t. (t.schema, (t.rows, t.layers))) (λ p. record { schema = p.0; rows = p.1.0; layers = p.1.1 }) (λ _. refl)

-- the table that it is
abbrev pub table_of : Layered → Table
table_of t = record { schema = t.schema; rows = t.rows }
