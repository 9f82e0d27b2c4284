-- Expressions as plain data.
use Rattle.std.specs.Prelude.{◌≡◌, ℕ, zero, suc, ◌+◌, max}
use Rattle.mk_value.specs.Paths.{Route}
use Rattle.tokens.specs.Paths.{IsPath}
use Rattle.expr_text.specs.Arguments.{IsTail, Tail}
use Rattle.expr_text.specs.Operators.{form_of, one_table, takes, two_tables}
use Rattle.expr_text.specs.declared.operator.Operator.{Operator}

-- what is asked for: the view that a path leads to, or what an operator gives of one table, or of two
pub data Query : Type 0 where
  path : Route → Query
  one : Operator → Query → Tail → Query
  two : Operator → Query → Query → Tail → Query

-- The expression is what a text may hold, with at most so many operators inside one another: each operator has as many tables as it takes, and
-- behind them what it takes.
abbrev pub IsQuery : Query → ℕ → Type 0
IsQuery (path route) deep = IsPath route
IsQuery (one operator q tail) zero = ⊥
IsQuery (one operator q tail) (suc deep) = IsQuery q deep × ((takes operator ≡ one_table (form_of tail)) × IsTail tail)
IsQuery (two operator p q tail) zero = ⊥
IsQuery (two operator p q tail) (suc deep) = IsQuery p deep × (IsQuery q deep × ((takes operator ≡ two_tables (form_of tail)) × IsTail tail))

-- how many operators may stand inside one another around a path, whose depth is 1
abbrev pub max_operators : ℕ
max_operators = 15

-- the depth: 1 for a path, one more than the deepest table for an operator
abbrev pub depth_of : Query → ℕ
depth_of (path route) = 1
depth_of (one operator q tail) = depth_of q + 1
depth_of (two operator p q tail) = max (depth_of p) (depth_of q) + 1
