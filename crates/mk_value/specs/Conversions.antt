-- How a literal becomes a value of a kind. A literal is a value whose numbers have no kind yet: they count as long.
use Rattle.std.specs.Prelude.{◌≤◌, length, FitsSigned, Option, None, Some}
use Rattle.std.specs.Int.{w32, w64}
use Rattle.mk_value.specs.Limits.{max_bytes, max_rows}
use Rattle.mk_value.specs.Heading.{Domain, Heading, no_attributes, attribute}
use Rattle.mk_value.specs.Data.{Datum, integer, long, text, bytes, relation, Tuple, no_values, value, Relation, no_tuples, tuple, rows_of, IsText, default_of}

-- a number fits a kind of numbers within its width, a text or a byte string its own kind,
-- and a view a view where each row has at most as many literals as properties, and each fits
abbrev mutual
  pub LiteralFits : Datum → Domain → Type 0
  LiteralFits (long z) Domain.integer = FitsSigned w32 z
  LiteralFits (long z) Domain.long = Unit {0}
  LiteralFits (text content) Domain.text = Unit {0}
  LiteralFits (bytes content) Domain.bytes = Unit {0}
  LiteralFits (relation r) (Domain.relation h) = LiteralsFit r h
  LiteralFits _ _ = ⊥

  pub LiteralRowFits : Tuple → Heading → Type 0
  LiteralRowFits no_values h = Unit {0}
  LiteralRowFits (value d rest) (attribute n e h) = LiteralFits d e × LiteralRowFits rest h
  LiteralRowFits (value d rest) no_attributes = ⊥

  pub LiteralsFit : Relation → Heading → Type 0
  LiteralsFit no_tuples h = Unit {0}
  LiteralsFit (tuple t rest) h = LiteralRowFits t h × LiteralsFit rest h

-- no text or byte string in it is longer than one may be, and no view has more rows
abbrev mutual
  pub IsShort : Datum → Type 0
  IsShort (integer z) = Unit {0}
  IsShort (long z) = Unit {0}
  IsShort (text content) = length content ≤ max_bytes
  IsShort (bytes content) = length content ≤ max_bytes
  IsShort (relation r) = (length (rows_of r) ≤ max_rows) × AreShort r

  pub IsShortRow : Tuple → Type 0
  IsShortRow no_values = Unit {0}
  IsShortRow (value d rest) = IsShort d × IsShortRow rest

  pub AreShort : Relation → Type 0
  AreShort no_tuples = Unit {0}
  AreShort (tuple t rest) = IsShortRow t × AreShort rest

-- each number in it has 64 bits, and each text is UTF-8 without a zero byte
abbrev mutual
  pub IsProper : Datum → Type 0
  IsProper (integer z) = FitsSigned w64 z
  IsProper (long z) = FitsSigned w64 z
  IsProper (text content) = IsText content
  IsProper (bytes content) = Unit {0}
  IsProper (relation r) = AreProper r

  pub IsProperRow : Tuple → Type 0
  IsProperRow no_values = Unit {0}
  IsProperRow (value d rest) = IsProper d × IsProperRow rest

  pub AreProper : Relation → Type 0
  AreProper no_tuples = Unit {0}
  AreProper (tuple t rest) = IsProperRow t × AreProper rest

-- the defaults of properties
abbrev pub defaults : Heading → Tuple
defaults no_attributes = no_values
defaults (attribute n e h) = value (default_of e) (defaults h)

-- the value of the domain that a literal becomes, where it fits; in a row the missing values are defaults
abbrev mutual
  pub becomes : Datum → Domain → Datum
  becomes (long z) Domain.integer = integer z
  becomes (relation r) (Domain.relation h) = relation (rows_become r h)
  becomes d _ = d

  pub row_becomes : Tuple → Heading → Tuple
  row_becomes no_values h = defaults h
  row_becomes (value d rest) (attribute n e h) = value (becomes d e) (row_becomes rest h)
  row_becomes (value d rest) no_attributes = no_values

  pub rows_become : Relation → Heading → Relation
  rows_become no_tuples h = no_tuples
  rows_become (tuple t rest) h = tuple (row_becomes t h) (rows_become rest h)

-- the same of a place of a row, at which there may be no literal
abbrev pub CellFits : Option Datum → Domain → Type 0
CellFits None e = Unit {0}
CellFits (Some d) e = LiteralFits d e

abbrev pub cell_becomes : Option Datum → Domain → Datum
cell_becomes None e = default_of e
cell_becomes (Some d) e = becomes d e
