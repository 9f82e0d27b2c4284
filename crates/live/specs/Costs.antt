-- How many tests and comparisons an event may cost.
use Rattle.std.specs.Prelude.{ℕ, zero, suc, ◌/◌, ◌==◌, if◌then◌else◌, List, length}
use Rattle.mk_value.specs.Data.{Datum}
use Rattle.live.specs.States.{WatchState}
use Rattle.live.specs.Chains.{seen}
use Rattle.live.specs.Watching.{is_sorting}

-- how many binary digits a number has, and 0 none: the greatest b with 2 ^ b at most twice the number and one
abbrev pub bits : ℕ → ℕ → ℕ
bits zero n = 0
bits (suc fuel) n = if n == 0 then 0 else suc (bits fuel (n / 2))

unfoldable pub digits : ℕ → ℕ
digits n = bits n n

-- what a watch may count before an event: a sorting as many comparisons as its source's size has binary digits, a selection nothing
abbrev pub before_cost : List (List Datum) → List WatchState → WatchState → ℕ
before_cost rows watches w = if is_sorting w.op then digits (length (seen rows watches w.source)) else 0

-- and what it may count after one: a sorting as many comparisons, a selection one test
abbrev pub after_cost : List (List Datum) → List WatchState → WatchState → ℕ
after_cost rows watches w = if is_sorting w.op then digits (length (seen rows watches w.source)) else 1
