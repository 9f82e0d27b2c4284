-- What stands in a line beside expressions: lists without brackets, up to the line's end, and what may be kept up to date.
use Rattle.std.specs.Prelude.{◌≡◌, ℕ, List, [], ◌∷◌, ◌++◌, All}
use Rattle.std.specs.List.{flat_map}
use Rattle.mk_value.specs.Data.{Datum}
use Rattle.mk_value.specs.Literals as literals
use Rattle.mk_value.specs.Names.{IsName}
use Rattle.mk_value.specs.Tokens.{Token}
use Rattle.tokens.specs.Literals.{IsLiteral, max_braces}
use Rattle.expr_text.specs.Arguments.{Criterion, IsTail}
use Rattle.expr_text.specs.Operators.{form_of, one_table, takes}
use Rattle.expr_text.specs.Queries.{Query, path, one}
use Rattle.expr_text.specs.Spelling.{criterion_tokens, listed}
use Rattle.expr_text.specs.declared.operator.Operator.{Operator}
use Rattle.expr_text.specs.declared.operator.Operator.TheVariants.{Select, Range, Sort, Counts, Keep}

-- literals with nothing between them
abbrev pub AreValues : List Datum → Type 0
AreValues values = All (λ d. IsLiteral max_braces d) values

abbrev pub values_tokens : List Datum → List Token
values_tokens values = flat_map literals.tokens_of values

-- criteria joined by commas
abbrev pub joined_tokens : List Criterion → List Token
joined_tokens [] = []
joined_tokens (c ∷ criteria) = criterion_tokens c ++ listed criterion_tokens criteria

-- the operators whose rows may be kept up to date
abbrev pub IsKeptUp : Operator → Type 0
IsKeptUp Select = Unit {0}
IsKeptUp Range = Unit {0}
IsKeptUp Sort = Unit {0}
IsKeptUp Counts = Unit {0}
IsKeptUp Keep = Unit {0}
IsKeptUp _ = ⊥

-- a name without steps
abbrev pub IsNameAlone : Query → Type 0
IsNameAlone (path route) = (route.steps ≡ []) × IsName route.name
IsNameAlone _ = ⊥

-- such an operator of what a name stands for
abbrev pub IsOperation : Query → Type 0
IsOperation (one operator table tail) = IsKeptUp operator × IsNameAlone table × (takes operator ≡ one_table (form_of tail)) × IsTail tail
IsOperation _ = ⊥
