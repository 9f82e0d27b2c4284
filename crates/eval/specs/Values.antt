-- The value of an expression: what each operator gives of the values of its tables, from the left and from the inside.
use Rattle.std.specs.Prelude.{◌⊎◌, ◌≡◌, ℕ, true, false, List, find, length, map, Option, Some, None, Result, Ok, Err}
use Rattle.mk_value.specs.Names.{same_bytes}
use Rattle.mk_value.specs.Tables.{Table}
use Rattle.relations.specs.declared.criteria.Key.{Key}
use Rattle.relations.specs.declared.error.DerivedError.{DerivedError}
use Rattle.relations.specs.Answers.{outcome}
use Rattle.relations.specs.Criteria.{Interval, valued}
use Rattle.relations.specs.Refusals.{literals_due, other_schema, sort_due}
use Rattle.derived.specs.Grouping.{counts, group_by}
use Rattle.derived.specs.Joining.{join, join_prop, pair, product}
use Rattle.derived.specs.Operators.{concat, different, intersect, minus, project, range, rename, select, slice, sort, union, unique, without}
use Rattle.derived.specs.Refusals.{concat_due, counts_due, different_due, group_by_due, join_due, join_prop_due, pair_due, product_due, project_due, rename_due, slice_due, union_due, without_due}
use Rattle.derived.specs.Viewing.{calc, calc_due, keep, keep_due}
use Rattle.viewers.specs.Meanings.{Meaning}
use Rattle.expr_text.specs.Arguments.{Criterion, Range, Tail, nothing, criteria, bounds, orders, names, inner, renamed, rows, named, viewed, viewed_as}
use Rattle.expr_text.specs.Queries.{Query, path, one, two}
use Rattle.expr_text.specs.declared.expr.Order.{Order}
use Rattle.expr_text.specs.declared.operator.Operator.{Operator}
use Rattle.expr_text.specs.declared.operator.Operator.TheVariants as operators
use Rattle.eval.specs.declared.error.EvalError.{EvalError}
use Rattle.eval.specs.declared.error.EvalError.TheVariants.{Name, Op, Viewer}
use Rattle.eval.specs.declared.error.NameError.{NameError}
use Rattle.eval.specs.Answers.{IsMemory}
use Rattle.eval.specs.Names.{Named, continued, view_at}

-- criteria, bounds and keys as operators take them
abbrev pub asked : Criterion → Interval
asked c = record { prop = c.prop; low = c.value; high = c.value }

abbrev pub bounded : Range → Interval
bounded r = record { prop = r.prop; low = r.low; high = r.high }

abbrev pub key_of : Order → Key
key_of o = record { prop = o.prop; down = o.down }

-- what an operator gives; a refusal tells the size of its first table
abbrev pub at_size : Table → Result Table DerivedError → Result Table EvalError
at_size t (Err e) = Err (Op e (length t.rows))
at_size t (Ok given) = Ok given

-- what a path leads to
abbrev pub at_path : Result Table NameError → Result Table EvalError
at_path (Err e) = Err (Name e)
at_path (Ok t) = Ok t

-- the first viewer of a name, and what is asked of it; where none has the name, that is refused
abbrev pub viewer_of : List Meaning → List ℕ → Option Meaning
viewer_of viewers name = find (λ (m : Meaning). same_bytes m.name name) viewers

abbrev pub by_viewer : Option Meaning → List ℕ → (Meaning → Result Table EvalError) → Result Table EvalError
by_viewer None name given = Err (Viewer name)
by_viewer (Some m) name given = given m

-- a table with a viewer's answers as a last property, and the rows whose answer is not 0
abbrev pub calculated : List Meaning → List ℕ → List (List ℕ) → List ℕ → Table → Result Table EvalError
calculated viewers viewer args new t =
    by_viewer (viewer_of viewers viewer) viewer (λ m. at_size t (outcome (calc_due m.name m.takes args new t) (calc m.gives args new t)))

abbrev pub kept : List Meaning → List ℕ → List (List ℕ) → Table → Result Table EvalError
kept viewers viewer args t =
    by_viewer (viewer_of viewers viewer) viewer (λ m. at_size t (outcome (keep_due m.name m.takes args t.schema) (keep m.gives args t)))

-- the number of the rows of each key
abbrev pub counted : List (List ℕ) → List ℕ → Table → Result Table EvalError
counted keys count t = at_size t (outcome (counts_due keys count t) (counts keys count t))

-- what an operator gives of one table; an operator that does not take what stands behind the table is in no expression
abbrev pub of_one : List Meaning → Operator → Tail → Table → Result Table EvalError
of_one viewers operators.Select (criteria list) t =
    at_size t (outcome (literals_due (map asked list) t.schema) (select (map (valued t.schema) (map asked list)) t))
of_one viewers operators.Range (bounds list) t =
    at_size t (outcome (literals_due (map bounded list) t.schema) (range (map (valued t.schema) (map bounded list)) t))
of_one viewers operators.Sort (orders list) t = at_size t (outcome (sort_due (map key_of list) t.schema) (sort (map key_of list) t))
of_one viewers operators.Project (names list) t = at_size t (outcome (project_due list t.schema) (project list t))
of_one viewers operators.Without (names list) t = at_size t (outcome (without_due list t.schema) (without list t))
of_one viewers operators.Rename (renamed name new) t = at_size t (outcome (rename_due name new t.schema) (rename name new t))
of_one viewers operators.Slice (rows first limit step) t = at_size t (outcome (slice_due step) (slice first limit step t))
of_one viewers operators.Unique nothing t = Ok (unique t)
of_one viewers operators.GroupBy (named list name) t = at_size t (outcome (group_by_due list name t) (group_by list name t))
of_one viewers operators.Counts (named list name) t = counted list name t
of_one viewers operators.JoinProp (inner name) t = at_size t (outcome (join_prop_due false name t) (join_prop false name t))
of_one viewers operators.OuterJoinProp (inner name) t = at_size t (outcome (join_prop_due true name t) (join_prop true name t))
of_one viewers operators.Calc (viewed_as viewer list new) t = calculated viewers viewer list new t
of_one viewers operators.Keep (viewed viewer list) t = kept viewers viewer list t
of_one viewers _ _ t = Ok t

-- what an operator gives of two tables
abbrev pub of_two : Operator → Tail → Table → Table → Result Table EvalError
of_two operators.Concat nothing a b = at_size a (outcome (concat_due a b) (concat a b))
of_two operators.Pair nothing a b = at_size a (outcome (pair_due a b) (pair a b))
of_two operators.Product nothing a b = at_size a (outcome (product_due a b) (product a b))
of_two operators.Union nothing a b = at_size a (outcome (union_due a b) (union a b))
of_two operators.Intersect nothing a b = at_size a (outcome (other_schema a b) (intersect a b))
of_two operators.Minus nothing a b = at_size a (outcome (other_schema a b) (minus a b))
of_two operators.Different nothing a b = at_size a (outcome (different_due a b) (different a b))
of_two operators.Join (names list) a b = at_size a (outcome (join_due false list a b) (join false list a b))
of_two operators.OuterJoin (names list) a b = at_size a (outcome (join_due true list a b) (join true list a b))
of_two _ _ a b = Ok a

-- the table that an expression asks for among these names and viewers, or the first refusal
abbrev pub value : List Named → List Meaning → Query → Result Table EvalError
value ns viewers (path route) = at_path (view_at ns route)
value ns viewers (one operator q tail) = continued (value ns viewers q) (of_one viewers operator tail)
value ns viewers (two operator p q tail) = continued (value ns viewers p) (λ a. continued (value ns viewers q) (λ b. of_two operator tail a b))

-- a call answers the value: a table that is seen as it, or its refusal; or memory was wanting
abbrev pub Evaluates : {D : Type 0} → (D → Table) → Result Table EvalError → Result D EvalError → Type 0
Evaluates see value (Ok d) = value ≡ Ok (see d)
Evaluates see value (Err e) = IsMemory e ⊎ (value ≡ Err e)
