-- Whether a literal fits a property, and whether it is as short as a value may be: as tests.
use Rattle.std.specs.Prelude.{◌^◌, Bool, true, false, ◌&&◌, nat_le, List, ◌∷◌, length}
use Rattle.std.specs.List.{list_all}
use Rattle.mk_value.specs.Limits.{max_bytes, max_rows}
use Rattle.mk_value.specs.Heading.{Domain, Heading, no_attributes, attribute, Attribute}
use Rattle.mk_value.specs.Data.{Datum, integer, long, text, bytes, relation, Tuple, no_values, value, Relation, no_tuples, tuple, rows_of}
use Rattle.view_store.specs.Fitting.{is_within}

-- a number fits a kind of numbers within its width, a text or a byte string its own kind, and a view a view where each row has at most
-- as many literals as properties, and each fits
abbrev mutual
  pub fits : Datum → Domain → Bool
  fits (long z) Domain.integer = is_within (2 ^ 31) z
  fits (long z) Domain.long = true
  fits (text content) Domain.text = true
  fits (bytes content) Domain.bytes = true
  fits (relation r) (Domain.relation h) = rows_fit r h
  fits _ _ = false

  pub row_fits : Tuple → Heading → Bool
  row_fits no_values h = true
  row_fits (value d rest) (attribute n e h) = fits d e && row_fits rest h
  row_fits (value d rest) no_attributes = false

  pub rows_fit : Relation → Heading → Bool
  rows_fit no_tuples h = true
  rows_fit (tuple t rest) h = row_fits t h && rows_fit rest h

-- each of the literals fits the property in its place
abbrev pub all_fit : List Datum → List Attribute → Bool
all_fit (d ∷ literals) (a ∷ schema) = fits d a.domain && all_fit literals schema
all_fit _ _ = true

-- no text or byte string in the literal is longer than one may be, and no view has more rows
abbrev mutual
  pub is_short : Datum → Bool
  is_short (integer z) = true
  is_short (long z) = true
  is_short (text content) = nat_le (length content) max_bytes
  is_short (bytes content) = nat_le (length content) max_bytes
  is_short (relation r) = nat_le (length (rows_of r)) max_rows && are_short r

  pub is_short_row : Tuple → Bool
  is_short_row no_values = true
  is_short_row (value d rest) = is_short d && is_short_row rest

  pub are_short : Relation → Bool
  are_short no_tuples = true
  are_short (tuple t rest) = is_short_row t && are_short rest

abbrev pub all_short : List Datum → Bool
all_short literals = list_all is_short literals
