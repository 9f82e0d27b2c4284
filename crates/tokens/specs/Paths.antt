-- Which tokens are a path.
use Rattle.std.specs.Prelude.{◌≡◌, ℕ, ◌+◌, ◌<◌, ◌≤◌, ◌^◌, pos, List, [], ◌∷◌, ◌++◌, length, drop, All}
use Rattle.std.specs.List.{flat_map}
use Rattle.mk_value.specs.Names.{IsName}
use Rattle.mk_value.specs.Paths.{Route}
use Rattle.mk_value.specs.Tokens.{Token, word, number, sign}
use Rattle.mk_value.specs.declared.path.Step.{Step}
use Rattle.tokens.specs.Fronts.{Language}

abbrev pub slash : ℕ
slash = 47

-- a step: `/ROW/PROP`
abbrev pub step_tokens : Step → List Token
step_tokens step = sign slash ∷ number (pos step.row) ∷ sign slash ∷ word step.prop ∷ []

-- a path: `NAME`, and its steps
abbrev pub path_tokens : Route → List Token
path_tokens route = word route.name ∷ flat_map step_tokens route.steps

-- names are names, and each row is a number of 63 bits
pub record IsPath (route : Route) : Type 0 where
  pub name : IsName route.name
  pub steps : All (λ step. (step.row < 2 ^ 63) × IsName step.prop) route.steps

pub record SpellsPath (tokens : List Token) (route : Route) : Type 0 where
  pub whole : IsPath route
  pub is : tokens ≡ path_tokens route

-- the tokens of paths
abbrev pub PathTokens : Language
PathTokens tokens = (route : Route) × SpellsPath tokens route

-- a slash is the first of the tokens
abbrev pub GoesOnWithSlash : List Token → Type 0
GoesOnWithSlash tokens = (rest : List Token) × (tokens ≡ sign slash ∷ rest)

-- a row is a number of 63 bits, and a property a name
abbrev pub IsStep : Step → Type 0
IsStep step = (step.row < 2 ^ 63) × IsName step.prop

-- the tokens of steps alone
abbrev pub StepTokens : Language
StepTokens tokens = (steps : List Step) × All IsStep steps × (tokens ≡ flat_map step_tokens steps)

-- the step stands at a place
pub record StandsStep (tokens : List Token) (at : ℕ) (step : Step) : Type 0 where
  pub within : at + 4 ≤ length tokens
  pub whole : IsStep step
  pub is : drop at tokens ≡ step_tokens step ++ drop (at + 4) tokens
