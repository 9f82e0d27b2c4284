use Rattle.std.proofs.Common.{◌≡◌, rules, SFits, [], map, ap, sym, subst, ◌∙◌}
use Rattle.std.specs.Int.{w64}
use Rattle.std.proofs.lemmas.Int.{to_z-of_z}
use Rattle.std.specs.Prelude.{IfOk, Ok}
use Rattle.derived.specs.Layers.{table_of}
use Rattle.derived.specs.Operators.{first_rows, slice, sort}
use Rattle.derived.specs.Refusals.{slice_due}
use Rattle.expr_text.specs.Arguments.{rows}
use Rattle.expr_text.specs.declared.operator.Operator.TheVariants as operators
use Rattle.mk_value.specs.Tables.{Table}
use Rattle.relations.specs.Answers.{AnswersDue, outcome}
use Rattle.relations.specs.Refusals.{sort_due}
use Rattle.eval.specs.Values.{Evaluates, key_of, of_one}
use Rattle.eval.proofs.Answered.{answered, answered_due, told_size}
use Rattle.eval.proofs.Slices.{done_before, slice_of_first, sort_keeps_size}
use Rattle.eval.proofs.sliced.slice_sorted.Goals as goal

pub returns : goal.returns
returns g c =
    let t = table_of c.args.base in
    let by = c.args.sliced.now in
    let keys = map key_of by.orders.now in
    let s = sort keys t in
    let f = first_rows by.limit s in
    let due = sort_due keys t.schema in
    let rest : Table → _ = of_one [] operators.Slice (rows by.first by.limit by.step) in
    let given = answered table_of t f (outcome due f) c.first_by.result (Ok c.in_ok-sorted.sorted) c.first_by.ensures
    (told_size t c.size-size.result c.first_by.result (Ok c.in_ok-sorted.sorted) c.size-size.ensures.value c.in_ok-sorted.ensures) in
    let done = done_before due t f s (table_of c.in_ok-sorted.sorted) rest given in
    let fits : SFits w64 by.step = search rules in
    let round = to_z-of_z w64 by.step fits in
    subst (λ value. Evaluates table_of value c.at_size-2.result) (sym done.1)
    (answered_due table_of s (slice by.first by.limit by.step s) (slice_due by.step) c.slice.result c.at_size-2.result (subst (λ z. AnswersDue (slice_due z) c.slice.result) round c.slice.ensures.due)
    (subst (λ u. IfOk c.slice.result (λ d. table_of d ≡ u))
    (ap (λ z. slice by.first by.limit z (table_of c.in_ok-sorted.sorted)) round ∙ ap (slice by.first by.limit by.step) done.0 ∙ slice_of_first by.first by.limit by.step s) c.slice.ensures.ok)
    (told_size s c.size-size.result c.slice.result c.at_size-2.result (c.size-size.ensures.value ∙ sym (sort_keeps_size keys t)) c.at_size-2.ensures))
