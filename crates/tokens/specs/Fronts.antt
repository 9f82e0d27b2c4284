-- Where a list of tokens stops being the front of something that a language has.
use Rattle.std.specs.Prelude.{◌≡◌, ◌⊎◌, ℕ, ◌+◌, ◌≤◌, List, [], ◌∷◌, ◌++◌, length, map, take}
use Rattle.mk_value.specs.Tokens.{Token}
use Rattle.tokens.specs.Cutting.{Piece, Cuts, IsFirstFlaw}

-- a language: which lists of tokens belong to it
abbrev pub Language : Type 1
Language = List Token → Type 0

-- the tokens are the front of a list of the language, or all of one
abbrev pub IsFront : Language → List Token → Type 0
IsFront language tokens = (more : List Token) × language (tokens ++ more)

abbrev pub tokens_in : List Piece → List Token
tokens_in pieces = map (λ p. p.token) pieces

-- the first token at which no list of the language can go on
pub record IsFirstWrong (language : Language) (pieces : List Piece) (place : ℕ) : Type 0 where
  pub front : List Piece
  pub piece : Piece
  pub rest : List Piece
  pub split : pieces ≡ front ++ piece ∷ rest
  pub goes_on : IsFront language (tokens_in front)
  pub wrong : IsFront language (tokens_in front ++ piece.token ∷ []) → ⊥
  pub at : place ≡ piece.place

-- the tokens are a front, but nothing whole, and the place is the end of the text
pub record EndsEarly (language : Language) (pieces : List Piece) (size place : ℕ) : Type 0 where
  pub goes_on : IsFront language (tokens_in pieces)
  pub unfinished : language (tokens_in pieces) → ⊥
  pub at : place ≡ size

-- The first offence of a text against a language: the first piece that is no token, wherever it stands; else the first token at which nothing can
-- go on; else, where the text ends too early, its length.
abbrev pub IsFirstOffence : Language → List ℕ → ℕ → Type 0
IsFirstOffence language content place =
    IsFirstFlaw content place
    ⊎ ((pieces : List Piece) × Cuts content pieces × (IsFirstWrong language pieces place ⊎ EndsEarly language pieces (length content) place))

-- Reading a part that stands at the front of tokens stops behind so many of them: they are a front of the part, but no whole one, and the next
-- token, if there is one, cannot go on.
pub record Stops (language : Language) (tokens : List Token) (count : ℕ) : Type 0 where
  pub within : count ≤ length tokens
  pub goes_on : IsFront language (take count tokens)
  pub unfinished : language (take count tokens) → ⊥
  pub wrong : (count ≡ length tokens) ⊎ (IsFront language (take (count + 1) tokens) → ⊥)
