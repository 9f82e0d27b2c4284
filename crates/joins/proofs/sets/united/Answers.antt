use Rattle.std.proofs.Common.{◌≡◌, false, subst, ap, ◌∙◌}
use Rattle.std.specs.List.{filter}
use Rattle.std.proofs.lemmas.Result.{IfOk-weaker}
use Rattle.derived.specs.Layers.{table_of}
use Rattle.derived.specs.Operators.{concat, distinct, minus, union, unique, with_rows}
use Rattle.relations.specs.Answers.{AnswersDue}
use Rattle.std.specs.Prelude.{length}
use Rattle.joins.specs.Sets.{is_kept}
use Rattle.joins.proofs.Counting.{due_counts}
use Rattle.joins.proofs.Rows.{new_among_distinct}
use Rattle.joins.proofs.Unions.{parts_due, parts_united}
use Rattle.joins.proofs.sets.united.Goals as goal

pub returns : goal.returns
returns g c =
    let a = table_of c.args.a in
    let b = table_of c.args.b in
    let first = table_of c.in_ok-first.first in
    let second = table_of c.in_ok-second.second in
    let one : first ≡ unique a = c.in_ok-first.ensures.ok in
    let two : second ≡ with_rows b (filter (is_kept false a.rows) (distinct b.rows)) =
    c.in_ok-second.ensures.ok ∙ ap (minus (unique b)) one ∙ ap (with_rows b) (new_among_distinct a.rows (distinct b.rows)) in
    let counted = due_counts (length (union a b).rows) c.concat.result (subst (λ o. AnswersDue o c.concat.result) (parts_due a b first second one two c.requires) c.concat.ensures.due) in
    record {
      ok = IfOk-weaker c.concat.result (λ d. table_of d ≡ concat first second) (λ d. table_of d ≡ union a b) (λ d h. h ∙ parts_united a b first second one two) c.concat.ensures.ok;
      few = counted.0;
      err = counted.1;
    }
