use Rattle.std.proofs.Common.{◌≡◌, ◌<◌, All, false, length, ap, subst, sym, ◌∙◌, arith}
use Rattle.std.specs.List.{filter}
use Rattle.std.proofs.lemmas.Result.{IfOk-weaker}
use Rattle.derived.specs.Layers.{table_of}
use Rattle.derived.specs.Operators.{concat, distinct, union, unique, with_rows}
use Rattle.relations.specs.Answers.{AnswersDue}
use Rattle.relations.specs.Rows.{rows_at}
use Rattle.grouping.proofs.Positions.{firsts_few, firsts_in, rows_at_firsts}
use Rattle.joins.specs.Sets.{is_kept}
use Rattle.joins.proofs.Counting.{due_counts}
use Rattle.joins.proofs.Members.{new_few, new_in, rows_at_new}
use Rattle.joins.proofs.Unions.{parts_due, parts_united}
use Rattle.joins.proofs.sets.united_plain.Goals as goal

pub gather-requires : goal.gather-requires
gather-requires g c =
    let rows = c.args.a.rows in
    let most = c.in_ok-parts.ensures.few.0 in
    let long = ap length c.in_ok-parts.ensures.first in
    let fewer = firsts_few rows in
    record { few = omega arith; in_range = subst (λ ps. All (λ i. i < length rows) ps) (sym c.in_ok-parts.ensures.first) (firsts_in rows) }

pub gather-requires-2 : goal.gather-requires-2
gather-requires-2 g c =
    let rows = c.args.b.rows in
    let most = c.in_ok-parts.ensures.few.1 in
    let long = ap length c.in_ok-parts.ensures.second in
    let fewer = new_few c.args.a.rows rows in
    record { few = omega arith; in_range = subst (λ ps. All (λ i. i < length rows) ps) (sym c.in_ok-parts.ensures.second) (new_in c.args.a.rows rows) }

pub returns : goal.returns
returns g c =
    let a = table_of c.args.a in
    let b = table_of c.args.b in
    let first = table_of c.in_ok-first.first in
    let second = table_of c.in_ok-second.second in
    let one : first ≡ unique a = c.in_ok-first.ensures ∙ ap (with_rows a) (ap (rows_at a.rows) c.in_ok-parts.ensures.first ∙ rows_at_firsts a.rows) in
    let two : second ≡ with_rows b (filter (is_kept false a.rows) (distinct b.rows)) = c.in_ok-second.ensures ∙ ap (with_rows b) (ap (rows_at b.rows) c.in_ok-parts.ensures.second ∙ rows_at_new a.rows b.rows) in
    let counted = due_counts (length (union a b).rows) c.concat.result (subst (λ o. AnswersDue o c.concat.result) (parts_due a b first second one two c.requires.due) c.concat.ensures.due) in
    record {
      ok = IfOk-weaker c.concat.result (λ d. table_of d ≡ concat first second) (λ d. table_of d ≡ union a b) (λ d h. h ∙ parts_united a b first second one two) c.concat.ensures.ok;
      few = counted.0;
      err = counted.1;
    }
