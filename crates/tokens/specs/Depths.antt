-- Offences of texts whose language has a limit of depth: beside a strict language, which keeps the limit, stands a loose one of any depth.
use Rattle.std.specs.Prelude.{◌≡◌, ◌⊎◌, ℕ, List, [], ◌∷◌, ◌++◌, length, Option, Some, None}
use Rattle.tokens.specs.Cutting.{CutsUpTo, Piece}
use Rattle.tokens.specs.Fronts.{EndsEarly, IsFirstWrong, IsFront, Language, tokens_in}

-- an offence and its place
pub data Offence : Type 0 where
  syntax : ℕ → Offence
  too_deep : ℕ → Offence

-- A name and what opens behind it: so far the strict language goes on, but not past the opening, where the loose one does. The place is that of the name.
pub record OpensTooDeep (strict loose : Language) (pieces : List Piece) (place : ℕ) : Type 0 where
  pub front : List Piece
  pub name : Piece
  pub opening : Piece
  pub rest : List Piece
  pub split : pieces ≡ front ++ name ∷ opening ∷ rest
  pub goes_on : IsFront strict (tokens_in front ++ name.token ∷ [])
  pub deeper : IsFront loose (tokens_in front ++ name.token ∷ opening.token ∷ [])
  pub wrong : IsFront strict (tokens_in front ++ name.token ∷ opening.token ∷ []) → ⊥
  pub at : place ≡ name.place

-- The place of what is wrong whatever the depth: the piece that is no token, wherever it stands; else the first token at which nothing can go on; else,
-- where the text ends too early, its length.
abbrev pub IsWrongAt : Language → List Piece → Option ℕ → ℕ → ℕ → Type 0
IsWrongAt loose pieces (Some flaw) size place = place ≡ flaw
IsWrongAt loose pieces None size place = IsFirstWrong loose pieces place ⊎ EndsEarly loose pieces size place

-- Of pieces up to a flaw: what opens too deep is the offence where there is such, since it stands left of the flaw; else what is wrong.
abbrev pub Offends : Language → Language → List Piece → Option ℕ → ℕ → Offence → Type 0
Offends strict loose pieces flaw size (too_deep place) = OpensTooDeep strict loose pieces place
Offends strict loose pieces flaw size (syntax place) =
    ((other : ℕ) → OpensTooDeep strict loose pieces other → ⊥) × IsWrongAt loose pieces flaw size place

-- the first offence of a text
abbrev pub IsFirstOffence : Language → Language → List ℕ → Offence → Type 0
IsFirstOffence strict loose content offence =
    (pieces : List Piece) × (flaw : Option ℕ) × CutsUpTo content pieces flaw × Offends strict loose pieces flaw (length content) offence
