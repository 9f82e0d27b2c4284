-- An operation that may be watched: a selection, a range, a sorting, counts or a filter of what a name stands for.
use Rattle.std.specs.Prelude.{◌≡◌, ◌⊎◌, ℕ, List, [], map, Option, Some, None, Result, Ok, Err}
use Rattle.std.specs.Option.{option_map}
use Rattle.computing.specs.declared.computed.Computation.{Computation}
use Rattle.computing.specs.declared.computed.Computation.TheVariants.{Counts, Filter}
use Rattle.eval.specs.Values.{asked, bounded, key_of}
use Rattle.expr_text.specs.Arguments.{bounds, criteria, named, orders, viewed}
use Rattle.expr_text.specs.Queries.{Query, one, path}
use Rattle.expr_text.specs.declared.operator.Operator.TheVariants as operators
use Rattle.live.specs.Putting.{as_watch_error}
use Rattle.live.specs.Watching.{op_due}
use Rattle.live.specs.declared.error.WatchError.{WatchError}
use Rattle.live.specs.declared.error.WatchError.TheVariants.{Memory}
use Rattle.live.specs.declared.op.WatchOp.{WatchOp}
use Rattle.live.specs.declared.op.WatchOp.TheVariants.{Range, Sort}
use Rattle.mk_value.specs.Heading.{Attribute}
use Rattle.relations.specs.Criteria.{valued}

-- the name that an expression is, and the name of what an operation is asked of
abbrev pub name_alone : Query → List ℕ
name_alone (path route) = route.name
name_alone _ = []

abbrev pub operand : Query → List ℕ
operand (one operator q tail) = name_alone q
operand _ = []

-- what a computed watch would show: counts, and the rows on which a viewer's answer is not 0
abbrev pub computed_by : Query → Option Computation
computed_by (one operators.Counts q (named keys count)) = Some (Counts keys count)
computed_by (one operators.Keep q (viewed viewer props)) = Some (Filter viewer props)
computed_by _ = None

-- what it shows of rows of a schema: a selection is a range whose bounds are equal
abbrev pub operation : List Attribute → Query → WatchOp
operation schema (one operators.Select q (criteria list)) = Range (map (valued schema) (map asked list))
operation schema (one operators.Range q (bounds list)) = Range (map (valued schema) (map bounded list))
operation schema (one operators.Sort q (orders list)) = Sort (map key_of list)
operation schema _ = Sort []

-- a call gives what is shown, or the refusal of its criteria or its keys; or memory was wanting
abbrev pub Shows : List Attribute → WatchOp → Result WatchOp WatchError → Type 0
Shows schema op (Ok made) = made ≡ op
Shows schema op (Err e) = (e ≡ Memory) ⊎ (option_map as_watch_error (op_due schema op) ≡ Some e)
