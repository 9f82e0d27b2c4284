-- Where the value of an expression has the values that criteria ask for.
use Rattle.std.specs.Prelude.{◌≡◌, ◌⊎◌, ℕ, Bool, true, false, ◌&&◌, not, nat_le, if◌then◌else◌, List, [], ◌∷◌, count_by, filter, length, map, take, Option, Some, None, Result, Ok, Err}
use Rattle.derived.specs.Layers.{Layered}
use Rattle.mk_value.specs.Data.{Datum}
use Rattle.mk_value.specs.Heading.{Attribute}
use Rattle.mk_value.specs.Names.{same_bytes}
use Rattle.mk_value.specs.Paths.{Route}
use Rattle.mk_value.specs.declared.path.Step.{Step}
use Rattle.mk_value.specs.Tables.{Table}
use Rattle.relations.specs.declared.criteria.Key.{Key}
use Rattle.relations.specs.declared.error.DerivedError.{DerivedError}
use Rattle.relations.specs.Criteria.{Interval, is_in_range, valued}
use Rattle.relations.specs.Positions.{first_passing}
use Rattle.relations.specs.Refusals.{literals_due}
use Rattle.relations.specs.Searching.{rows_before}
use Rattle.relations.specs.Sorting.{keys_or_all}
use Rattle.expr_text.specs.Arguments.{Criterion, orders}
use Rattle.expr_text.specs.Queries.{Query, one, path}
use Rattle.viewers.specs.Meanings.{Meaning}
use Rattle.expr_text.specs.declared.operator.Operator.TheVariants as operators
use Rattle.eval.specs.Names.{Named, continued}
use Rattle.eval.specs.Values.{asked, key_of}
use Rattle.watches.specs.Watches.{Followed, op_of}
use Rattle.keyed_views.specs.Mapped.{MappedView, mapping_of, order_in}
use Rattle.live.specs.declared.op.WatchOp.{WatchOp}
use Rattle.live.specs.declared.op.WatchOp.TheVariants as shows
use Rattle.questions.specs.declared.error.QuestionError.{QuestionError}
use Rattle.questions.specs.declared.error.QuestionError.TheVariants.{Memory, Range, Unsorted}
use Rattle.questions.specs.declared.located.Located.{Located}
use Rattle.questions.specs.Answers.{answer}
use Rattle.questions.specs.Told.{told_of_operator}

-- The same rows, in whatever order: of each test as many pass it.
pub record HasRowsOf (t : Table) (schema : List Attribute) (rows : List (List Datum)) : Type 0 where
  pub same_schema : schema ≡ t.schema
  pub as_many : (test : List Datum → Bool) → count_by test rows ≡ count_by test t.rows

-- a call gives a table with the rows that are due, in whatever order, or the refusal; or memory was wanting
abbrev pub AnswersUnordered : Result Table QuestionError → Result Layered QuestionError → Type 0
AnswersUnordered due (Ok d) = (t : Table) × (due ≡ Ok t) × HasRowsOf t d.schema d.rows
AnswersUnordered due (Err e) = (e ≡ Memory) ⊎ (due ≡ Err e)

-- what criteria are due of a schema, and else this
abbrev pub unless_due : {Y : Type 0} → Option DerivedError → Result Y QuestionError → Result Y QuestionError
unless_due (Some e) due = Err (told_of_operator e 0)
unless_due None due = due

-- the criteria, each literal as the value that it becomes
abbrev pub values_of : List Attribute → List Criterion → List Interval
values_of schema criteria = map (valued schema) (map asked criteria)

-- what is asked of the value of an expression, where criteria are due no refusal
abbrev pub asked_with : {Y : Type 0} → List Named → List Meaning → Query → List Criterion → (Table → Result Y QuestionError) → Result Y QuestionError
asked_with names viewers q criteria due =
    continued (answer names viewers q) (λ t. unless_due (literals_due (map asked criteria) t.schema) (due t))

-- the refusal is this, as it is told
abbrev pub IsTold : Option DerivedError → QuestionError → Type 0
IsTold (Some due) e = e ≡ told_of_operator due 0
IsTold None e = ⊥

-- a call gives the criteria as values, or the refusal that they are due; or memory was wanting
abbrev pub Tests : List Attribute → List Criterion → Result (List Interval) QuestionError → Type 0
Tests schema criteria (Ok values) = (literals_due (map asked criteria) schema ≡ None) × (values ≡ values_of schema criteria)
Tests schema criteria (Err e) = (e ≡ Memory) ⊎ IsTold (literals_due (map asked criteria) schema) e

-- `find`: the first row that passes, not before a start that is within the rows
abbrev pub found_from : ℕ → List Criterion → Table → Result (Option ℕ) QuestionError
found_from start criteria t =
    if nat_le start (length t.rows) then Ok (first_passing (is_in_range t.schema (values_of t.schema criteria)) t.rows start)
    else Err (Range (length t.rows))

abbrev pub find_due : List Named → List Meaning → Query → ℕ → List Criterion → Result (Option ℕ) QuestionError
find_due names viewers q start criteria = asked_with names viewers q criteria (found_from start criteria)

-- keys, each property once: the first of it decides
abbrev pub first_keys : List Key → List Key
first_keys [] = []
first_keys (k ∷ keys) = k ∷ filter (λ other. not (same_bytes k.prop other.prop)) (first_keys keys)

-- the keys of a watch that is a sorting
abbrev pub keys_shown : Option WatchOp → List Key
keys_shown (Some (shows.Sort keys)) = first_keys keys
keys_shown _ = []

-- of how many values the key is in whose order the rows of the view of a route stand; steps lead away from it
abbrev pub order_under : List Step → Option MappedView → Option ℕ
order_under [] mapping = order_in mapping
order_under (s ∷ steps) mapping = None

abbrev pub order_at : List MappedView → Route → Option ℕ
order_at mappings route = order_under route.steps (mapping_of mappings route.name)

-- the first properties, so many, upwards
abbrev pub upwards : ℕ → List Attribute → List Key
upwards count schema = map (λ a. record { prop = a.name; down = false }) (take count schema)

-- the keys of a view whose rows stand in their order, or else those of a watch
abbrev pub keys_in_order : Option ℕ → Option WatchOp → List Attribute → List Key
keys_in_order (Some count) watch schema = upwards count schema
keys_in_order None watch schema = keys_shown watch

-- the keys by which the value of an expression is known to be sorted: those of a sorting, of a view that is kept in their order, or of a
-- watch that is a sorting. Any other is known to be sorted by none
abbrev pub known_keys : List Followed → List MappedView → Query → List Attribute → List Key
known_keys watches mappings (one operators.Sort q (orders list)) schema = first_keys (keys_or_all schema (map key_of list))
known_keys watches mappings (path route) schema = keys_in_order (order_at mappings route) (op_of watches route.name) schema
known_keys watches mappings _ schema = []

-- the criteria name the first keys, in order
abbrev pub begin : List Criterion → List Key → Bool
begin [] keys = true
begin (c ∷ criteria) [] = false
begin (c ∷ criteria) (k ∷ keys) = same_bytes c.prop k.prop && begin criteria keys

-- where they do, this
abbrev pub where_sorted : {Y : Type 0} → List Followed → List MappedView → Query → List Criterion → Table → Y → Result Y QuestionError
where_sorted watches mappings q criteria t done = if begin criteria (known_keys watches mappings q t.schema) then Ok done else Err Unsorted

-- `search`: how many rows come before the values in the order of the keys
abbrev pub before_values : List Followed → List MappedView → Query → List Criterion → Table → ℕ
before_values watches mappings q criteria t = rows_before t.schema (known_keys watches mappings q t.schema) (values_of t.schema criteria) t.rows

abbrev pub search_due : List Named → List Followed → List MappedView → List Meaning → Query → List Criterion → Result ℕ QuestionError
search_due names watches mappings viewers q criteria = asked_with names viewers q criteria (λ t. where_sorted watches mappings q criteria t (before_values watches mappings q criteria t))

-- `locate`: and how many have the values
abbrev pub located : List Followed → List MappedView → Query → List Criterion → Table → Located
located watches mappings q criteria t = record {
  position = before_values watches mappings q criteria t;
  count = count_by (is_in_range t.schema (values_of t.schema criteria)) t.rows;
}

abbrev pub locate_due : List Named → List Followed → List MappedView → List Meaning → Query → List Criterion → Result Located QuestionError
locate_due names watches mappings viewers q criteria = asked_with names viewers q criteria (λ t. where_sorted watches mappings q criteria t (located watches mappings q criteria t))
