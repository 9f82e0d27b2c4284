use Rattle.std.proofs.Common.{◌≡◌, ◌<◌, [], All, false, None, length, ap, sym, subst, ◌∙◌}
use Rattle.std.specs.Option.{option_or}
use Rattle.std.specs.Prelude.{nat_lt}
use Rattle.std.proofs.lemmas.Result.{IfOk-weaker}
use Rattle.mk_value.specs.Limits.{max_rows}
use Rattle.mk_value.specs.Tables.{Table}
use Rattle.relations.specs.declared.error.DerivedError.TheVariants.{TooManyRows}
use Rattle.derived.specs.Layers.{table_of}
use Rattle.derived.specs.Operators.{concat, different, minus, with_rows}
use Rattle.relations.specs.Answers.{AnswersDue}
use Rattle.relations.specs.Refusals.{where_so}
use Rattle.derived.specs.Refusals.{concat_due}
use Rattle.relations.specs.Rows.{rows_at}
use Rattle.relations.proofs.Filtering.{passing_in, rows_passing}
use Rattle.joins.specs.Sets.{is_kept}
use Rattle.joins.proofs.Counting.{due_counts}
use Rattle.joins.proofs.sets.differing.Goals as goal

pub gather-requires : goal.gather-requires
gather-requires g c = record {
  few = c.in_ok-of_second.ensures.few;
  in_range = subst (λ ps. All (λ i. i < length c.args.b.rows) ps) (sym c.in_ok-of_second.ensures.kept) (passing_in (is_kept false c.args.a.rows) [] c.args.b.rows);
}

pub returns : goal.returns
returns g c =
    let a = table_of c.args.a in
    let b = table_of c.args.b in
    let first = table_of c.in_ok-first.first in
    let second = table_of c.in_ok-second.second in
    let one : first ≡ minus a b = c.in_ok-first.ensures in
    let two : second ≡ minus b a = c.in_ok-second.ensures ∙ ap (with_rows b) (ap (rows_at b.rows) c.in_ok-of_second.ensures.kept ∙ rows_passing (is_kept false a.rows) [] b.rows) in
    let all : concat first second ≡ different a b = ap (λ (x : Table). concat x second) one ∙ ap (concat (minus a b)) two in
    let refused : concat_due first second ≡ option_or (where_so (nat_lt max_rows (length (different a b).rows)) TooManyRows) None =
    ap (λ (x : Table). concat_due x second) one ∙ ap (concat_due (minus a b)) two
    ∙ ap (λ o. option_or o (option_or (where_so (nat_lt max_rows (length (different a b).rows)) TooManyRows) None)) c.requires in
    let counted = due_counts (length (different a b).rows) c.concat.result (subst (λ o. AnswersDue o c.concat.result) refused c.concat.ensures.due) in
    record {
      ok = IfOk-weaker c.concat.result (λ d. table_of d ≡ concat first second) (λ d. table_of d ≡ different a b) (λ d h. h ∙ all) c.concat.ensures.ok;
      few = counted.0;
      err = counted.1;
    }
