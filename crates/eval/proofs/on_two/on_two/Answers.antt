use Rattle.std.proofs.Common.{◌≡◌, ℕ, List, false, true, sym, subst}
use Rattle.std.specs.Prelude.{IfOk}
use Rattle.relations.specs.Answers.{AnswersCounted}
use Rattle.derived.specs.Joining.{join}
use Rattle.derived.specs.Layers.{table_of}
use Rattle.derived.specs.Refusals.{join_due}
use Rattle.expr_text.specs.Meanings.{query_of}
use Rattle.eval.specs.Parts.{given_of_two}
use Rattle.eval.specs.Values.{Evaluates}
use Rattle.eval.proofs.Answered.{answered_counted, told_size}
use Rattle.eval.proofs.on_two.on_two.Goals as goal

pub returns-in-Join : goal.returns-in-Join
returns-in-Join g c =
    let a = table_of c.args.a in
    let b = table_of c.args.b in
    subst (λ x. Evaluates table_of (given_of_two (query_of x) a b) c.at_size-in-Join.result) (sym c.in-Join.is)
    (answered_counted table_of a (join false c.in-Join.keys a b) (join_due false c.in-Join.keys a b) c.join.result c.at_size-in-Join.result
    (subst (λ (keys : List (List ℕ)). AnswersCounted (join_due false keys a b) c.join.result) c.as_slice.ensures c.join.ensures.due)
    (subst (λ (keys : List (List ℕ)). IfOk c.join.result (λ d. table_of d ≡ join false keys a b)) c.as_slice.ensures c.join.ensures.ok)
    (told_size a c.size-size.result c.join.result c.at_size-in-Join.result c.size-size.ensures.value c.at_size-in-Join.ensures))

pub returns-in-OuterJoin : goal.returns-in-OuterJoin
returns-in-OuterJoin g c =
    let a = table_of c.args.a in
    let b = table_of c.args.b in
    subst (λ x. Evaluates table_of (given_of_two (query_of x) a b) c.at_size-in-OuterJoin.result) (sym c.in-OuterJoin.is)
    (answered_counted table_of a (join true c.in-OuterJoin.keys a b) (join_due true c.in-OuterJoin.keys a b) c.join-in-OuterJoin.result c.at_size-in-OuterJoin.result
    (subst (λ (keys : List (List ℕ)). AnswersCounted (join_due true keys a b) c.join-in-OuterJoin.result) c.as_slice-in-OuterJoin.ensures c.join-in-OuterJoin.ensures.due)
    (subst (λ (keys : List (List ℕ)). IfOk c.join-in-OuterJoin.result (λ d. table_of d ≡ join true keys a b)) c.as_slice-in-OuterJoin.ensures c.join-in-OuterJoin.ensures.ok)
    (told_size a c.size-size.result c.join-in-OuterJoin.result c.at_size-in-OuterJoin.result c.size-size.ensures.value c.at_size-in-OuterJoin.ensures))
