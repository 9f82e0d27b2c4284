-- Criteria: bounds on the values of a property.
use Rattle.std.specs.Prelude.{ℕ, Bool, ◌&&◌, List, refl}
use Rattle.std.specs.Coded.{Coded, code_by, coded_ℕ, coded_list, coded×}
use Rattle.std.specs.Ordering.{is_le, is_ge, is_eq}
use Rattle.std.specs.List.{list_all}
use Rattle.mk_value.specs.Heading.{Attribute}
use Rattle.mk_value.specs.Data.{Datum}
use Rattle.mk_value.specs.DataCode.{datum_code}
use Rattle.mk_value.specs.Order.{value_cmp}
use Rattle.mk_value.specs.Conversions.{becomes}
use Rattle.relations.specs.Rows.{domain_of, value_of}

-- a property, and the least and the greatest of the values that are asked for
pub record Interval : Type 0 where
  pub prop : List ℕ
  pub low : Datum
  pub high : Datum

abbrev pub interval_code : Coded Interval
interval_code =
    code_by (List ℕ × (Datum × Datum)) (coded× (coded_list coded_ℕ) (coded× datum_code datum_code))
    (λ b. (b.prop, (b.low, b.high))) (λ p. record { prop = p.0; low = p.1.0; high = p.1.1 }) (λ _. refl)

-- the value lies at or between the bounds
abbrev pub is_within : Interval → Datum → Bool
is_within b d = is_ge (value_cmp d b.low) && is_le (value_cmp d b.high)

-- each value of the row that is asked for lies within its bounds
abbrev pub is_in_range : List Attribute → List Interval → List Datum → Bool
is_in_range schema bounds row = list_all (λ b. is_within b (value_of schema row b.prop)) bounds

-- each value of the row that is asked for is the one that is asked for
abbrev pub has_values : List Attribute → List Interval → List Datum → Bool
has_values schema criteria row = list_all (λ c. is_eq (value_cmp (value_of schema row c.prop) c.low)) criteria

-- bounds that are literals, as the values of the property's kind that they become; a literal that fits no value of the kind stays as it is
abbrev pub valued : List Attribute → Interval → Interval
valued schema b = record { prop = b.prop; low = becomes b.low (domain_of schema b.prop); high = becomes b.high (domain_of schema b.prop) }
