-- Rows that stand in the order of keys, as a view or a watch keeps them, and what is sought among them.
use Rattle.std.specs.Prelude.{◌≡◌, ℕ, count_by, if◌then◌else◌, List, [], map, Some, None, Result, Ok, Err}
use Rattle.eval.specs.Names.{view_at}
use Rattle.eval.specs.Values.{asked}
use Rattle.expr_text.specs.Arguments.{Criterion}
use Rattle.expr_text.specs.Queries.{Query, path}
use Rattle.watches.specs.Watches.{watch_table}
use Rattle.mapped.specs.Keys.{AscendByKey}
use Rattle.mapped.specs.Refusals.{count_due}
use Rattle.mk_value.specs.Paths.{Route}
use Rattle.mk_value.specs.Tables.{Table}
use Rattle.relations.specs.Criteria.{is_in_range}
use Rattle.relations.specs.declared.criteria.Key.{Key}
use Rattle.relations.specs.Refusals.{literals_due}
use Rattle.relations.specs.Searching.{rows_before}
use Rattle.tables.specs.Tables.{StoredTable}
use Rattle.view_store.specs.Views as views
use Rattle.questions.specs.Kept.{Names, known}
use Rattle.questions.specs.Places.{begin, order_at, unless_due, values_of}
use Rattle.questions.specs.declared.error.QuestionError.{QuestionError}
use Rattle.questions.specs.declared.located.Located.{Located}
use Rattle.questions.specs.declared.error.QuestionError.TheVariants.{Unsorted}

-- the rows of a table stand in the order of their first values, so many, of which none is a view
pub record StandInOrder (t : StoredTable) (count : ℕ) : Type 0 where
  pub plain : count_due count t.schema ≡ None
  pub ascend : AscendByKey count t.rows

-- The expression is the name of a view with this table, whose rows stand in this order.
pub record IsInOrder (n : Names) (q : Query) (t : StoredTable) (count : ℕ) : Type 0 where
  pub route : Route
  pub names : q ≡ path route
  pub here : route.steps ≡ []
  pub found : views.table_of n.views route.name ≡ Some t
  pub order : order_at n.mappings route ≡ Some count
  pub stand : StandInOrder t count

-- The expression is the name of a watch with this table, and neither that of a view or a snapshot nor that of a view that is kept in an order.
pub record IsWatchNamed (n : Names) (q : Query) (t : Table) : Type 0 where
  pub route : Route
  pub names : q ≡ path route
  pub seen : view_at (known n.views n.snapshots n.watches) route ≡ Ok t
  pub shows : watch_table n.views n.watches route.name ≡ Some t
  pub unkeyed : order_at n.mappings route ≡ None

-- how many rows come before the values of criteria, which name the first keys in order
abbrev pub sought : Table → List Key → List Criterion → Result ℕ QuestionError
sought t keys criteria =
    unless_due (literals_due (map asked criteria) t.schema) (if begin criteria keys then Ok (rows_before t.schema keys (values_of t.schema criteria) t.rows) else Err Unsorted)

-- and how many have the values
abbrev pub placed : Table → List Key → List Criterion → Result Located QuestionError
placed t keys criteria =
    unless_due (literals_due (map asked criteria) t.schema)
    (if begin criteria keys
    then Ok (record {
      position = rows_before t.schema keys (values_of t.schema criteria) t.rows;
      count = count_by (is_in_range t.schema (values_of t.schema criteria)) t.rows;
    })
    else Err Unsorted)
