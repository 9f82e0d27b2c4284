use Rattle.std.proofs.Common.{◌≡◌, ℕ, List, map, false, true, sym, subst}
use Rattle.std.specs.Prelude.{IfOk}
use Rattle.derived.specs.Grouping.{group_by}
use Rattle.derived.specs.Joining.{join_prop}
use Rattle.derived.specs.Layers.{table_of}
use Rattle.derived.specs.Operators.{range, select, sort}
use Rattle.derived.specs.Refusals.{group_by_due, join_prop_due}
use Rattle.relations.specs.Answers.{AnswersDue, outcome}
use Rattle.relations.specs.Criteria.{valued}
use Rattle.relations.specs.Refusals.{literals_due, sort_due}
use Rattle.expr_text.specs.Arguments.{Criterion, Range}
use Rattle.expr_text.specs.declared.expr.Order.{Order}
use Rattle.expr_text.specs.Meanings.{query_of}
use Rattle.eval.specs.Answers.{Gives}
use Rattle.eval.specs.Parts.{given_of_one}
use Rattle.eval.specs.Values.{Evaluates, asked, bounded, counted, key_of}
use Rattle.eval.proofs.Answered.{answered, answered_counted, answered_due, told_size}
use Rattle.eval.proofs.on_one.on_one.Goals as goal

pub returns-in-Select : goal.returns-in-Select
returns-in-Select g c =
    let t = table_of c.args.base in
    let told = told_size t c.size-size.result c.select_by.result c.at_size.result c.size-size.ensures.value c.at_size.ensures in
    subst (λ x. Evaluates table_of (given_of_one (map g.V.Viewer.meaning c.args.viewers.now) (query_of x) t) c.at_size.result) (sym c.in-Select.is)
    (answered table_of t t _ c.select_by.result c.at_size.result
    (subst (λ (list : List Criterion). Gives table_of (outcome (literals_due (map asked list) t.schema) (select (map (valued t.schema) (map asked list)) t)) c.select_by.result) c.as_slice.ensures c.select_by.ensures) told)

pub returns-in-Range : goal.returns-in-Range
returns-in-Range g c =
    let t = table_of c.args.base in
    let told = told_size t c.size-size.result c.range_by.result c.at_size-in-Range.result c.size-size.ensures.value c.at_size-in-Range.ensures in
    subst (λ x. Evaluates table_of (given_of_one (map g.V.Viewer.meaning c.args.viewers.now) (query_of x) t) c.at_size-in-Range.result) (sym c.in-Range.is)
    (answered table_of t t _ c.range_by.result c.at_size-in-Range.result
    (subst (λ (list : List Range). Gives table_of (outcome (literals_due (map bounded list) t.schema) (range (map (valued t.schema) (map bounded list)) t)) c.range_by.result) c.as_slice-in-Range.ensures c.range_by.ensures) told)

pub returns-in-Sort : goal.returns-in-Sort
returns-in-Sort g c =
    let t = table_of c.args.base in
    let told = told_size t c.size-size.result c.sort_by.result c.at_size-in-Sort.result c.size-size.ensures.value c.at_size-in-Sort.ensures in
    subst (λ x. Evaluates table_of (given_of_one (map g.V.Viewer.meaning c.args.viewers.now) (query_of x) t) c.at_size-in-Sort.result) (sym c.in-Sort.is)
    (answered table_of t t _ c.sort_by.result c.at_size-in-Sort.result
    (subst (λ (list : List Order). Gives table_of (outcome (sort_due (map key_of list) t.schema) (sort (map key_of list) t)) c.sort_by.result) c.as_slice-in-Sort.ensures c.sort_by.ensures) told)

pub returns-in-GroupBy : goal.returns-in-GroupBy
returns-in-GroupBy g c =
    let t = table_of c.args.base in
    let told = told_size t c.size-size.result c.group_by.result c.at_size-in-GroupBy.result c.size-size.ensures.value c.at_size-in-GroupBy.ensures in
    subst (λ x. Evaluates table_of (given_of_one (map g.V.Viewer.meaning c.args.viewers.now) (query_of x) t) c.at_size-in-GroupBy.result) (sym c.in-GroupBy.is)
    (answered_due table_of t ((group_by c.in-GroupBy.keys c.in-GroupBy.sub t)) (group_by_due c.in-GroupBy.keys c.in-GroupBy.sub t) c.group_by.result c.at_size-in-GroupBy.result
    (subst (λ (keys : List (List ℕ)). AnswersDue (group_by_due keys c.in-GroupBy.sub t) c.group_by.result) c.as_slice-in-GroupBy.ensures c.group_by.ensures.due)
    (subst (λ (keys : List (List ℕ)). IfOk c.group_by.result (λ d. table_of d ≡ group_by keys c.in-GroupBy.sub t)) c.as_slice-in-GroupBy.ensures c.group_by.ensures.ok) told)

pub returns-in-Counts : goal.returns-in-Counts
returns-in-Counts g c =
    let t = table_of c.args.base in
    subst (λ x. Evaluates table_of (given_of_one (map g.V.Viewer.meaning c.args.viewers.now) (query_of x) t) c.counts_by.result) (sym c.in-Counts.is)
    (subst (λ (keys : List (List ℕ)). Evaluates table_of (counted keys c.in-Counts.count t) c.counts_by.result) c.as_slice-in-Counts.ensures c.counts_by.ensures)

pub returns-in-JoinProp : goal.returns-in-JoinProp
returns-in-JoinProp g c =
    let t = table_of c.args.base in
    let told = told_size t c.size-size.result c.join_prop.result c.at_size-in-JoinProp.result c.size-size.ensures.value c.at_size-in-JoinProp.ensures in
    subst (λ x. Evaluates table_of (given_of_one (map g.V.Viewer.meaning c.args.viewers.now) (query_of x) t) c.at_size-in-JoinProp.result) (sym c.in-JoinProp.is)
    (answered_counted table_of t (join_prop false c.in-JoinProp.sub t) (join_prop_due false c.in-JoinProp.sub t) c.join_prop.result c.at_size-in-JoinProp.result c.join_prop.ensures.due c.join_prop.ensures.ok told)

pub returns-in-OuterJoinProp : goal.returns-in-OuterJoinProp
returns-in-OuterJoinProp g c =
    let t = table_of c.args.base in
    let told = told_size t c.size-size.result c.join_prop-in-OuterJoinProp.result c.at_size-in-OuterJoinProp.result c.size-size.ensures.value c.at_size-in-OuterJoinProp.ensures in
    subst (λ x. Evaluates table_of (given_of_one (map g.V.Viewer.meaning c.args.viewers.now) (query_of x) t) c.at_size-in-OuterJoinProp.result) (sym c.in-OuterJoinProp.is)
    (answered_counted table_of t (join_prop true c.in-OuterJoinProp.sub t) (join_prop_due true c.in-OuterJoinProp.sub t) c.join_prop-in-OuterJoinProp.result c.at_size-in-OuterJoinProp.result c.join_prop-in-OuterJoinProp.ensures.due c.join_prop-in-OuterJoinProp.ensures.ok told)
