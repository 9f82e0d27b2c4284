-- The tokens that lines and literals are written in.
use Rattle.std.specs.Prelude.{ℕ, ◌+◌, ◌/◌, ◌%◌, ℤ, ◌==◌, nat_lt, if◌then◌else◌, List, [], ◌∷◌, ◌++◌}
use Rattle.std.specs.List.{flat_map}
use Rattle.std.specs.Fmt.{signed_decimal}

-- a word, a number of 64 bits, a text, a byte string, or a sign by its byte
pub data Token : Type 0 where
  word : List ℕ → Token
  number : ℤ → Token
  text : List ℕ → Token
  bytes : List ℕ → Token
  sign : ℕ → Token

-- how a byte is written inside quotes: `\"`, `\\` and `\n` for a quote, a backslash and a newline
abbrev pub escaped : ℕ → List ℕ
escaped b = if b == 34 then 92 ∷ 34 ∷ [] else (if b == 92 then 92 ∷ 92 ∷ [] else (if b == 10 then 92 ∷ 110 ∷ [] else b ∷ []))

-- a text in quotes
abbrev pub quoted : List ℕ → List ℕ
quoted content = 34 ∷ (flat_map escaped content ++ (34 ∷ []))

-- a digit of base 16, in lower case
abbrev pub hex_digit : ℕ → ℕ
hex_digit n = if nat_lt n 10 then 48 + n else 87 + n

abbrev pub hex_pair : ℕ → List ℕ
hex_pair b = hex_digit (b / 16) ∷ hex_digit (b % 16) ∷ []

-- a byte string: `x`, and its bytes as pairs of digits in quotes
abbrev pub hex_quoted : List ℕ → List ℕ
hex_quoted content = 120 ∷ 34 ∷ (flat_map hex_pair content ++ (34 ∷ []))

-- the one spelling of a token
abbrev pub spelling : Token → List ℕ
spelling (word name) = name
spelling (number z) = signed_decimal z
spelling (text content) = quoted content
spelling (bytes content) = hex_quoted content
spelling (sign s) = s ∷ []
