-- What stands at a place of tokens.
use Rattle.std.specs.Prelude.{◌≡◌, ℕ, ◌+◌, List, ◌∷◌, drop}
use Rattle.mk_value.specs.Tokens.{Token}

-- the token stands at the place
abbrev pub Stands : List Token → ℕ → Token → Type 0
Stands tokens at token = drop at tokens ≡ token ∷ drop (at + 1) tokens
