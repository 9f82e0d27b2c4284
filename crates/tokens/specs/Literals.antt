-- Which tokens are a literal.
use Rattle.std.specs.Prelude.{◌≡◌, ℕ, ◌<◌, ◌-◌, List, All, FitsSigned}
use Rattle.std.specs.Int.{w64}
use Rattle.mk_value.specs.Data.{Datum, integer, long, text, bytes, relation, Tuple, no_values, value, Relation, no_tuples, tuple, IsText}
use Rattle.mk_value.specs.Literals.{row_tokens, tokens_of}
use Rattle.mk_value.specs.Tokens.{Token}
use Rattle.tokens.specs.Cutting.{Piece, Cuts}
use Rattle.tokens.specs.Fronts.{Language, tokens_in}

-- how deep braces may stand in a literal
abbrev pub max_braces : ℕ
max_braces = 8

-- A literal with braces at most so deep: a number of 64 bits, a text, a byte string, or the rows of a view, each with at least one value.
abbrev mutual
  pub IsLiteral : ℕ → Datum → Type 0
  IsLiteral deep (integer z) = ⊥
  IsLiteral deep (long z) = FitsSigned w64 z
  IsLiteral deep (text content) = IsText content
  IsLiteral deep (bytes content) = All (λ b. b < 256) content
  IsLiteral deep (relation rows) = (0 < deep) × AreLiteralRows (deep - 1) rows

  pub AreLiteralRows : ℕ → Relation → Type 0
  AreLiteralRows deep no_tuples = Unit {0}
  AreLiteralRows deep (tuple row rest) = IsLiteralRow deep row × AreLiteralRows deep rest

  pub IsLiteralRow : ℕ → Tuple → Type 0
  IsLiteralRow deep no_values = ⊥
  IsLiteralRow deep (value d rest) = IsLiteral deep d × AreLiterals deep rest

  pub AreLiterals : ℕ → Tuple → Type 0
  AreLiterals deep no_values = Unit {0}
  AreLiterals deep (value d rest) = IsLiteral deep d × AreLiterals deep rest

-- the tokens spell the literal
pub record SpellsLiteral (tokens : List Token) (d : Datum) : Type 0 where
  pub whole : IsLiteral max_braces d
  pub is : tokens ≡ tokens_of d

-- the tokens of literals
abbrev pub LiteralTokens : Language
LiteralTokens tokens = (d : Datum) × SpellsLiteral tokens d

-- the text is the literal: it is cut into the tokens that spell it
abbrev pub Reads : List ℕ → Datum → Type 0
Reads content d = (pieces : List Piece) × Cuts content pieces × SpellsLiteral (tokens_in pieces) d

-- the literal of a value: its numbers have no kind yet, and count as long
abbrev mutual
  pub as_literal : Datum → Datum
  as_literal (integer z) = long z
  as_literal (long z) = long z
  as_literal (text content) = text content
  as_literal (bytes content) = bytes content
  as_literal (relation rows) = relation (rows_as_literals rows)

  pub rows_as_literals : Relation → Relation
  rows_as_literals no_tuples = no_tuples
  rows_as_literals (tuple row rest) = tuple (row_as_literals row) (rows_as_literals rest)

  pub row_as_literals : Tuple → Tuple
  row_as_literals no_values = no_values
  row_as_literals (value d rest) = value (as_literal d) (row_as_literals rest)

-- each byte string in a value holds bytes
abbrev mutual
  pub HoldsBytes : Datum → Type 0
  HoldsBytes (integer z) = Unit {0}
  HoldsBytes (long z) = Unit {0}
  HoldsBytes (text content) = Unit {0}
  HoldsBytes (bytes content) = All (λ b. b < 256) content
  HoldsBytes (relation rows) = RowsHoldBytes rows

  pub RowsHoldBytes : Relation → Type 0
  RowsHoldBytes no_tuples = Unit {0}
  RowsHoldBytes (tuple row rest) = RowHoldsBytes row × RowsHoldBytes rest

  pub RowHoldsBytes : Tuple → Type 0
  RowHoldsBytes no_values = Unit {0}
  RowHoldsBytes (value d rest) = HoldsBytes d × RowHoldsBytes rest

-- the text is cut into the tokens of a row of literals, with braces in them at most so deep
pub record ReadsRowText (deep : ℕ) (content : List ℕ) (row : Tuple) : Type 0 where
  pub pieces : List Piece
  pub cuts : Cuts content pieces
  pub whole : IsLiteralRow deep row
  pub is : tokens_in pieces ≡ row_tokens row
