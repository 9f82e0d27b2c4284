-- Whether two schemas, and two rows, are the same.
use Rattle.std.specs.Prelude.{Bool, true, false, ◌&&◌, List}
use Rattle.std.specs.Ordering.{int_eq}
use Rattle.std.specs.List.{list_any}
use Rattle.std.specs.Cmp.Lexicographic.{pointwise}
use Rattle.mk_value.specs.Names.{same_bytes}
use Rattle.mk_value.specs.Heading.{Domain, Heading, no_attributes, attribute, Attribute}
use Rattle.mk_value.specs.Data.{Datum, integer, long, text, bytes, relation, Tuple, no_values, value, Relation, no_tuples, tuple}

-- the same names and domains, in order
abbrev mutual
  pub same_domain : Domain → Domain → Bool
  same_domain Domain.integer Domain.integer = true
  same_domain Domain.long Domain.long = true
  same_domain Domain.text Domain.text = true
  same_domain Domain.bytes Domain.bytes = true
  same_domain (Domain.relation h) (Domain.relation k) = same_heading h k
  same_domain _ _ = false

  pub same_heading : Heading → Heading → Bool
  same_heading no_attributes no_attributes = true
  same_heading (attribute n d rest) (attribute m e others) = same_bytes n m && same_domain d e && same_heading rest others
  same_heading _ _ = false

abbrev pub same_schema : List Attribute → List Attribute → Bool
same_schema = pointwise (λ a b. same_bytes a.name b.name && same_domain a.domain b.domain)

-- the same values, those of views row by row
abbrev mutual
  pub same_value : Datum → Datum → Bool
  same_value (integer a) (integer b) = int_eq a b
  same_value (long a) (long b) = int_eq a b
  same_value (text a) (text b) = same_bytes a b
  same_value (bytes a) (bytes b) = same_bytes a b
  same_value (relation r) (relation s) = same_relation r s
  same_value _ _ = false

  pub same_tuple : Tuple → Tuple → Bool
  same_tuple no_values no_values = true
  same_tuple (value d rest) (value e others) = same_value d e && same_tuple rest others
  same_tuple _ _ = false

  pub same_relation : Relation → Relation → Bool
  same_relation no_tuples no_tuples = true
  same_relation (tuple t rest) (tuple u others) = same_tuple t u && same_relation rest others
  same_relation _ _ = false

abbrev pub same_row : List Datum → List Datum → Bool
same_row = pointwise same_value

-- a row is one of these
abbrev pub is_row_among : List (List Datum) → List Datum → Bool
is_row_among rows row = list_any (λ known. same_row known row) rows
