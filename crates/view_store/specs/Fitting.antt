-- Whether a value is of a domain, as a test.
use Rattle.std.specs.Prelude.{ℕ, ◌^◌, ℤ, pos, negsuc, Bool, true, false, not, ◌&&◌, ◌==◌, nat_lt, nat_le, List, ◌∷◌, length}
use Rattle.std.specs.List.{list_all}
use Rattle.std.specs.Str.{is_utf8}
use Rattle.mk_value.specs.Limits.{max_bytes, max_rows}
use Rattle.mk_value.specs.Heading.{Domain, Heading, no_attributes, attribute, Attribute}
use Rattle.mk_value.specs.Data.{Datum, integer, long, text, bytes, relation, Tuple, no_values, value, Relation, no_tuples, tuple, rows_of}

-- a number from -limit to limit - 1
abbrev pub is_within : ℕ → ℤ → Bool
is_within limit (pos n) = nat_lt n limit
is_within limit (negsuc n) = nat_lt n limit

abbrev mutual
  pub is_of : Datum → Domain → Bool
  is_of (integer z) Domain.integer = is_within (2 ^ 31) z
  is_of (long z) Domain.long = is_within (2 ^ 63) z
  is_of (text content) Domain.text = is_utf8 content && list_all (λ b. not (b == 0)) content && nat_le (length content) max_bytes
  is_of (bytes content) Domain.bytes = nat_le (length content) max_bytes
  is_of (relation r) (Domain.relation h) = nat_le (length (rows_of r)) max_rows && are_tuples_of r h
  is_of _ _ = false

  pub is_tuple_of : Tuple → Heading → Bool
  is_tuple_of no_values no_attributes = true
  is_tuple_of (value d rest) (attribute n e others) = is_of d e && is_tuple_of rest others
  is_tuple_of _ _ = false

  pub are_tuples_of : Relation → Heading → Bool
  are_tuples_of no_tuples h = true
  are_tuples_of (tuple t rest) h = is_tuple_of t h && are_tuples_of rest h

-- each value is of the domain of the property in its place
abbrev pub are_of : List Datum → List Attribute → Bool
are_of (d ∷ row) (a ∷ schema) = is_of d a.domain && are_of row schema
are_of _ _ = true
