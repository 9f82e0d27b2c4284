-- How a text is cut into tokens: at each place the longest token that begins there, with any number of spaces between.
use Rattle.std.specs.Prelude.{◌≡◌, ◌≢◌, ℕ, zero, suc, ◌+◌, ◌<◌, ℤ, pos, Bool, false, ◌&&◌, ◌==◌, List, [], ◌∷◌, ◌++◌, length, All, Contains, FitsSigned, Option, Some, None, refl}
use Rattle.std.specs.Int.{w64}
use Rattle.std.specs.Char.{is_ascii_digit}
use Rattle.std.specs.Coded.{Coded, code_by, coded_ℕ, coded_ℤ, coded_list, coded×}
use Rattle.mk_value.specs.Data.{IsText}
use Rattle.mk_value.specs.Names.{IsName, is_name_byte, same_bytes}
use Rattle.mk_value.specs.Tokens.{Token, word, number, text, bytes, sign, spelling}

-- the one byte that parts tokens
abbrev pub space : ℕ
space = 32

-- the signs: ( ) , - / : = { }
abbrev pub signs : List ℕ
signs = 40 ∷ 41 ∷ 44 ∷ 45 ∷ 47 ∷ 58 ∷ 61 ∷ 123 ∷ 125 ∷ []

-- A token that a text may hold: a word is a name, a number has 64 bits, and what stands in quotes is UTF-8 without a zero byte.
abbrev pub IsToken : Token → Type 0
IsToken (word name) = IsName name
IsToken (number z) = FitsSigned w64 z
IsToken (text content) = IsText content
IsToken (bytes content) = All (λ b. b < 256) content
IsToken (sign s) = Contains signs s

-- whether the first of the bytes passes a test
abbrev pub begins_with : (ℕ → Bool) → List ℕ → Bool
begins_with test [] = false
begins_with test (b ∷ rest) = test b

-- What stands right behind the token makes no longer one of it: a run of letters, digits and `_` is one piece, `x` before a quote
-- begins a byte string, and `-` before a digit begins a number.
abbrev pub EndsBefore : Token → List ℕ → Type 0
EndsBefore (word name) rest =
    (begins_with is_name_byte rest ≡ false) × ((same_bytes name (120 ∷ []) && begins_with (λ b. b == 34) rest) ≡ false)
EndsBefore (number z) rest = begins_with is_name_byte rest ≡ false
EndsBefore (text content) rest = Unit {0}
EndsBefore (bytes content) rest = Unit {0}
EndsBefore (sign s) rest = ((s == 45) && begins_with is_ascii_digit rest) ≡ false

-- a token as the number of its form, a number and bytes, and back
abbrev pub token_parts : Token → ℕ × (ℤ × List ℕ)
token_parts (word name) = (0, (pos 0, name))
token_parts (number z) = (1, (z, []))
token_parts (text content) = (2, (pos 0, content))
token_parts (bytes content) = (3, (pos 0, content))
token_parts (sign s) = (suc (suc (suc (suc s))), (pos 0, []))

abbrev pub token_of_form : ℕ → ℤ → List ℕ → Token
token_of_form zero z content = word content
token_of_form (suc zero) z content = number z
token_of_form (suc (suc zero)) z content = text content
token_of_form (suc (suc (suc zero))) z content = bytes content
token_of_form (suc (suc (suc (suc s)))) z content = sign s

abbrev pub token_from : ℕ × (ℤ × List ℕ) → Token
token_from p = token_of_form p.0 p.1.0 p.1.1

pub token_again : (t : Token) → token_from (token_parts t) ≡ t
token_again (word name) = refl
token_again (number z) = refl
token_again (text content) = refl
token_again (bytes content) = refl
token_again (sign s) = refl

-- the bytes begin with the token, and these stand behind it
pub record Begins (content : List ℕ) (token : Token) (rest : List ℕ) : Type 0 where
  pub whole : IsToken token
  pub stands : content ≡ spelling token ++ rest
  pub ends : EndsBefore token rest

-- a token and the place of its first byte
pub record Piece : Type 0 where
  pub place : ℕ
  pub token : Token

-- pieces are told apart by their places and tokens
abbrev pub token_code : Coded Token
token_code =
    code_by (ℕ × (ℤ × List ℕ)) (coded× coded_ℕ (coded× coded_ℤ (coded_list coded_ℕ))) token_parts token_from token_again

abbrev pub piece_code : Coded Piece
piece_code = code_by (ℕ × Token) (coded× coded_ℕ token_code) (λ p. (p.place, p.token)) (λ p. record { place = p.0; token = p.1 }) (λ _. refl)

abbrev pub pieces_code : Coded (List Piece)
pieces_code = coded_list piece_code

abbrev pub end_of : Piece → ℕ
end_of p = p.place + length (spelling p.token)

-- Of the bytes, the first of which stands at a place, spaces and the piece come first, and these stand behind it.
pub record Leads (place : ℕ) (content : List ℕ) (p : Piece) (rest : List ℕ) : Type 0 where
  pub gap : List ℕ
  pub blank : All (λ b. b ≡ space) gap
  pub at : p.place ≡ place + length gap
  pub begins : (behind : List ℕ) × (content ≡ gap ++ behind) × Begins behind p.token rest

-- The bytes, the first of which stands at a place, are these pieces and spaces around them.
abbrev pub CutsFrom : ℕ → List ℕ → List Piece → Type 0
CutsFrom place content [] = All (λ b. b ≡ space) content
CutsFrom place content (p ∷ pieces) = (rest : List ℕ) × Leads place content p rest × CutsFrom (end_of p) rest pieces

abbrev pub Cuts : List ℕ → List Piece → Type 0
Cuts content pieces = CutsFrom 0 content pieces

-- no token begins at the first of the bytes, which is no space and stands at the flaw
pub record IsNoToken (place : ℕ) (content : List ℕ) (flaw : ℕ) : Type 0 where
  pub gap : List ℕ
  pub blank : All (λ b. b ≡ space) gap
  pub at : flaw ≡ place + length gap
  pub wrong : (first : ℕ) × (rest : List ℕ) × (content ≡ gap ++ (first ∷ rest)) × (first ≢ space)
      × ((token : Token) → (behind : List ℕ) → Begins (first ∷ rest) token behind → ⊥)

-- behind these pieces stands the flaw
abbrev pub FlawFrom : ℕ → List ℕ → List Piece → ℕ → Type 0
FlawFrom place content [] flaw = IsNoToken place content flaw
FlawFrom place content (p ∷ pieces) flaw = (rest : List ℕ) × Leads place content p rest × FlawFrom (end_of p) rest pieces flaw

-- the place of the first piece of the text that is no token
abbrev pub IsFirstFlaw : List ℕ → ℕ → Type 0
IsFirstFlaw content flaw = (pieces : List Piece) × FlawFrom 0 content pieces flaw

-- The text is cut into these pieces, up to its first piece that is no token where it has one.
abbrev pub CutsUpTo : List ℕ → List Piece → Option ℕ → Type 0
CutsUpTo content pieces None = Cuts content pieces
CutsUpTo content pieces (Some flaw) = FlawFrom 0 content pieces flaw

-- how many pieces stand in a list of them itself
abbrev pub inline_pieces : ℕ
inline_pieces = 8
