-- What an expression is made of.
use Rattle.std.specs.Prelude.{◌≡◌, ℕ, ℤ, List, [], Result, Ok}
use Rattle.viewers.specs.Meanings.{Meaning}
use Rattle.mk_value.specs.Tables.{Table}
use Rattle.expr_text.specs.Meanings.{query_of}
use Rattle.expr_text.specs.Operators.{form_of, one_table, takes, two_tables}
use Rattle.expr_text.specs.Arguments.{IsTail, orders, rows}
use Rattle.expr_text.specs.Queries.{IsQuery, Query, path, one, two}
use Rattle.expr_text.specs.declared.expr.Order.{Order}
use Rattle.expr_text.specs.declared.operator.Operator.TheVariants as operators
use Rattle.eval.specs.Names.{continued}
use Rattle.eval.specs.declared.bases.Bases.{Bases}
use Rattle.eval.specs.declared.bases.Bases.TheVariants.{Path, One, Two}
use Rattle.eval.specs.declared.error.EvalError.{EvalError}
use Rattle.eval.specs.Values.{of_one, of_two}

-- it stands on this path, or on these expressions
abbrev pub AreBases : Query → Bases → Type 0
AreBases (path route) (Path p) = p.now ≡ route
AreBases (one operator q tail) (One e) = query_of e.now ≡ q
AreBases (two operator p q tail) (Two e f) = (query_of e.now ≡ p) × (query_of f.now ≡ q)
AreBases _ _ = ⊥

-- a text may hold the expression, if any number of operators may stand inside one another
abbrev pub IsWhole : Query → Type 0
IsWhole q = (deep : ℕ) × IsQuery q deep

-- an operator stands before one table, or two, and behind them what it takes
abbrev pub IsOverOne : Query → Type 0
IsOverOne (one operator q tail) = (takes operator ≡ one_table (form_of tail)) × IsTail tail
IsOverOne _ = ⊥

abbrev pub IsOverTwo : Query → Type 0
IsOverTwo (two operator p q tail) = (takes operator ≡ two_tables (form_of tail)) × IsTail tail
IsOverTwo _ = ⊥

-- what the outermost operator gives of the values of its tables
abbrev pub given_of_one : List Meaning → Query → Table → Result Table EvalError
given_of_one viewers (one operator q tail) t = of_one viewers operator tail t
given_of_one viewers _ t = Ok t

abbrev pub given_of_two : Query → Table → Table → Result Table EvalError
given_of_two (two operator p q tail) a b = of_two operator tail a b
given_of_two _ a b = Ok a

-- a slice of an expression, and a sorting of one
abbrev pub sliced : Query → ℕ → ℕ → ℤ → Query
sliced q first limit step = one operators.Slice q (rows first limit step)

abbrev pub sorted_by : Query → List Order → Query
sorted_by q list = one operators.Sort q (orders list)

-- what a slice of a sorting gives of the table that is sorted
abbrev pub slice_of_sorting : List Order → ℕ → ℕ → ℤ → Table → Result Table EvalError
slice_of_sorting list first limit step t = continued (of_one [] operators.Sort (orders list) t) (of_one [] operators.Slice (rows first limit step))
