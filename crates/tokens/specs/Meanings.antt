-- What the tokens of the program mean.
use Rattle.std.specs.Prelude.{ℕ, ◌+◌, ◌*◌, ◌-◌, ◌%◌, ◌==◌, nat_lt, if◌then◌else◌, List, [], ◌∷◌, map}
use Rattle.mk_value.specs.Tokens as plain
use Rattle.tokens.specs.Cutting as cutting
use Rattle.tokens.specs.declared.token.Sign.{Sign}
use Rattle.tokens.specs.declared.token.Sign.TheVariants.{OpenParenthesis, CloseParenthesis, OpenBrace, CloseBrace, Comma, Slash, Colon, Equals, Minus}
use Rattle.tokens.specs.declared.token.Token.{Token}
use Rattle.tokens.specs.declared.token.Token.TheVariants.{Word, Number, Text, Bytes, Symbol}
use Rattle.tokens.specs.declared.token.Piece.{Piece}

-- the byte of a sign
abbrev pub byte_of : Sign → ℕ
byte_of OpenParenthesis = 40
byte_of CloseParenthesis = 41
byte_of OpenBrace = 123
byte_of CloseBrace = 125
byte_of Comma = 44
byte_of Slash = 47
byte_of Colon = 58
byte_of Equals = 61
byte_of Minus = 45

-- What the bytes that are written in quotes stand for: a backslash and `n` for a newline, a backslash and any other byte for that byte.
abbrev pub escape_of : ℕ → ℕ
escape_of b = if b == 110 then 10 else b

abbrev mutual
  pub characters_of : List ℕ → List ℕ
  characters_of [] = []
  characters_of (b ∷ rest) = if b == 92 then behind_backslash rest else b ∷ characters_of rest

  pub behind_backslash : List ℕ → List ℕ
  behind_backslash [] = []
  behind_backslash (b ∷ rest) = escape_of b ∷ characters_of rest

-- The bytes that pairs of digits of base 16 stand for.
abbrev pub digit_value : ℕ → ℕ
digit_value b = if nat_lt b 58 then b - 48 else b - 87

abbrev mutual
  pub pairs_of : List ℕ → List ℕ
  pairs_of [] = []
  pairs_of (b ∷ rest) = behind_digit b rest

  pub behind_digit : ℕ → List ℕ → List ℕ
  behind_digit high [] = []
  behind_digit high (low ∷ rest) = (16 * digit_value high + digit_value low) % 256 ∷ pairs_of rest

-- the plain token
abbrev pub token_of : Token → plain.Token
token_of (Word name) = plain.word name.now
token_of (Number n) = plain.number n
token_of (Text written) = plain.text (characters_of written.now)
token_of (Bytes written) = plain.bytes (pairs_of written.now)
token_of (Symbol s) = plain.sign (byte_of s)

abbrev pub piece_of : Piece → cutting.Piece
piece_of p = record { place = p.place; token = token_of p.token }

-- the plain pieces, and their tokens
abbrev pub pieces_of : List Piece → List cutting.Piece
pieces_of pieces = map piece_of pieces

abbrev pub tokens_of_pieces : List Piece → List plain.Token
tokens_of_pieces pieces = map (λ p. token_of p.token) pieces
