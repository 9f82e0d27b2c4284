-- The parts of a literal: which tokens each is, and what reading one from a place finds.
use Rattle.std.specs.Prelude.{◌≡◌, ℕ, ◌+◌, ◌≤◌, List, ◌∷◌, ◌++◌, length, drop, Option, None, Some}
use Rattle.mk_value.specs.Data.{Datum, IsText, relation, Tuple, Relation, tuple, tuple_of, relation_of}
use Rattle.mk_value.specs.LiteralValues.{literal_of}
use Rattle.mk_value.specs.Literals.{tokens_of, row_tokens}
use Rattle.mk_value.specs.Tokens.{Token, sign}
use Rattle.mk_value.specs.declared.literal.Literal.{Literal}
use Rattle.tokens.specs.Fronts.{Language, Stops}
use Rattle.tokens.specs.Literals.{AreLiteralRows, IsLiteral, IsLiteralRow}
use Rattle.tokens.specs.declared.error.PartError.{PartError}
use Rattle.tokens.specs.declared.error.PartError.TheVariants.{Memory, Stuck}

-- literals with braces at most so deep
abbrev pub LiteralIn : ℕ → Language
LiteralIn deep tokens = (d : Datum) × IsLiteral deep d × (tokens ≡ tokens_of d)

-- rows of a view, and what stands behind the opening parenthesis of one
abbrev pub RowIn : ℕ → Language
RowIn deep tokens = (row : Tuple) × IsLiteralRow deep row × (tokens ≡ row_tokens row)

abbrev pub ValuesIn : ℕ → Language
ValuesIn deep tokens = (row : Tuple) × IsLiteralRow deep row × (sign 40 ∷ tokens ≡ row_tokens row)

-- what stands behind the opening brace of a view, and the same where the view has a row
abbrev pub RowsIn : ℕ → Language
RowsIn deep tokens = (rows : Relation) × AreLiteralRows deep rows × (sign 123 ∷ tokens ≡ tokens_of (relation rows))

abbrev pub SomeRowsIn : ℕ → Language
SomeRowsIn deep tokens =
    (row : Tuple) × (rest : Relation) × IsLiteralRow deep row × AreLiteralRows deep rest × (sign 123 ∷ tokens ≡ tokens_of (relation (tuple row rest)))

-- what was read from a place of the tokens up to another
pub record ReadsLiteral (tokens : List Token) (at deep : ℕ) (d : Datum) (end : ℕ) : Type 0 where
  pub within : end ≤ length tokens
  pub whole : IsLiteral deep d
  pub is : drop at tokens ≡ tokens_of d ++ drop end tokens

pub record ReadsRow (tokens : List Token) (at deep : ℕ) (row : List Datum) (end : ℕ) : Type 0 where
  pub within : end ≤ length tokens
  pub whole : IsLiteralRow deep (tuple_of row)
  pub is : drop at tokens ≡ row_tokens (tuple_of row) ++ drop end tokens

pub record ReadsValues (tokens : List Token) (at deep : ℕ) (row : List Datum) (end : ℕ) : Type 0 where
  pub within : end ≤ length tokens
  pub whole : IsLiteralRow deep (tuple_of row)
  pub is : sign 40 ∷ drop at tokens ≡ row_tokens (tuple_of row) ++ drop end tokens

pub record ReadsRows (tokens : List Token) (at deep : ℕ) (rows : List (List Datum)) (end : ℕ) : Type 0 where
  pub within : end ≤ length tokens
  pub whole : AreLiteralRows deep (relation_of rows)
  pub is : sign 123 ∷ drop at tokens ≡ tokens_of (relation (relation_of rows)) ++ drop end tokens

-- the literal of one token that stands at a place, or nothing where none stands there
abbrev pub FindsPlain : List Token → ℕ → Option Literal → Type 0
FindsPlain tokens at None = (d : Datum) → (rest : List Token) → IsLiteral 0 d → drop at tokens ≡ tokens_of d ++ rest → ⊥
FindsPlain tokens at (Some literal) = ReadsLiteral tokens at 0 (literal_of literal) (at + 1)

-- the literal of a text of this content, or nothing where it is none
abbrev pub IsTextLiteral : List ℕ → Option Literal → Type 0
IsTextLiteral content None = IsText content → ⊥
IsTextLiteral content (Some literal) = IsText content × (literal_of literal ≡ Datum.text content)

-- reading a part from a place failed: it stopped at another, or memory ran out
abbrev pub StopsAt : Language → List Token → ℕ → PartError → Type 0
StopsAt language tokens at Memory = Unit {0}
StopsAt language tokens at (Stuck place) = (count : ℕ) × (place ≡ at + count) × Stops language (drop at tokens) count
