-- The texts of the parts of an expression.
use Rattle.std.specs.Prelude.{ℕ, List, [], ◌∷◌, ◌++◌}
use Rattle.std.specs.List.{flat_map}
use Rattle.mk_value.specs.Literals.{spelled}
use Rattle.mk_value.specs.Tokens.{Token, word}
use Rattle.mk_value.specs.declared.path.Step.{Step}
use Rattle.tokens.specs.Paths.{path_tokens, step_tokens}
use Rattle.expr_text.specs.Arguments.{Tail}
use Rattle.expr_text.specs.Operators.{word_of}
use Rattle.expr_text.specs.Queries.{Query, one, path, two}
use Rattle.expr_text.specs.Spelling.{closing, comma, opening, tail_tokens, tokens_of}

-- the texts of the members of a list, each behind a comma
abbrev pub listed_text : {A : Type 0} → (A → List Token) → List A → List ℕ
listed_text tokens list = flat_map (λ x. (44 ∷ []) ++ spelled (tokens x)) list

-- the texts of steps
abbrev pub steps_text : List Step → List ℕ
steps_text list = flat_map (λ s. spelled (step_tokens s)) list

-- an operator and its first table, or a path; the second table behind a comma; what stands behind the tables, and the closing parenthesis
abbrev pub head_tokens : Query → List Token
head_tokens (path route) = path_tokens route
head_tokens (one operator q tail) = word (word_of operator) ∷ opening ∷ tokens_of q
head_tokens (two operator p q tail) = word (word_of operator) ∷ opening ∷ tokens_of p

abbrev pub second_tokens : Query → List Token
second_tokens (path route) = []
second_tokens (one operator q tail) = []
second_tokens (two operator p q tail) = comma ∷ tokens_of q

abbrev pub end_tokens : Query → List Token
end_tokens (path route) = []
end_tokens (one operator q tail) = tail_tokens tail ++ (closing ∷ [])
end_tokens (two operator p q tail) = tail_tokens tail ++ (closing ∷ [])

abbrev pub end_text : Tail → List ℕ
end_text tail = spelled (tail_tokens tail ++ (closing ∷ []))
