use Rattle.std.proofs.Common.{ℕ, ◌∙◌, List, Option, codes, sym, subst}
use Rattle.std.proofs.lemmas.Bool.{false≢true}
use Rattle.std.specs.Prelude.{IfNone, IfSome}
use Rattle.clap.specs.Matches.{found_of}
use Rattle.clap.specs.Walk.{first_of}
use Rattle.command_line.specs.Asking.{MeansTask, found_rows}
use Rattle.command_line.specs.declared.job.Task.{Task}
use Rattle.command_line.proofs.Found.{none_found, text_found}
use Rattle.command_line.proofs.Tasks.{no_sample, numbered_alone, sampled, some_sample}
use Rattle.command_line.proofs.reading.task_of.Goals as goal
use Rattle.command_line.proofs.reading.task_of.Goals.{then-is_given-via-then-is_given, then-is_given-via-else-is_given+then-is_flagged}

pub returns-in_default-clause-some : goal.returns-in_default-clause-some
returns-in_default-clause-some c =
    let rows = found_rows c.args.matches.now in
    let none = none_found (found_of c.args.matches.now) (codes "sample") c.get_str.result c.get_str.ensures c.in_default.is in
    subst (λ (given : Option (List ℕ)). IfSome c.task_of_no_sample.result (MeansTask rows given (first_of (codes "count") rows))) (sym none) c.task_of_no_sample.ensures.some

pub returns-in_default-clause-none : goal.returns-in_default-clause-none
returns-in_default-clause-none c =
    let rows = found_rows c.args.matches.now in
    let none = none_found (found_of c.args.matches.now) (codes "sample") c.get_str.result c.get_str.ensures c.in_default.is in
    subst (λ (given : Option (List ℕ)). IfNone c.task_of_no_sample.result ((task : Task) → MeansTask rows given (first_of (codes "count") rows) task → ⊥)) (sym none) c.task_of_no_sample.ensures.none

pub returns-in_err-count-clause-none : goal.returns-in_err-count-clause-none
returns-in_err-count-clause-none c = rw c.from_residual.ensures (λ task means.
    let rows = found_rows c.args.matches.now in
    let found = found_of c.args.matches.now in
    numbered_alone rows (first_of (codes "sample") rows) (first_of (codes "count") rows) c.in-Some.number.now task
    (text_found found (codes "sample") c.get_str.result c.get_str.ensures c.in-Some.number c.in-Some.is)
    (none_found found (codes "count") c.get_str-2.result c.get_str-2.ensures c.in_err-count.was) means)

pub returns-then-is_given-clause-none : goal.returns-then-is_given-clause-none
returns-then-is_given-clause-none c = λ task means.
    let rows = found_rows c.args.matches.now in
    let found = found_of c.args.matches.now in
    let asked = sampled rows (first_of (codes "sample") rows) (first_of (codes "count") rows) c.in-Some.number.now c.in_ok-count.count.now
    (text_found found (codes "sample") c.get_str.result c.get_str.ensures c.in-Some.number c.in-Some.is)
    (text_found found (codes "count") c.get_str-2.result c.get_str-2.ensures c.in_ok-count.count c.in_ok-count.was) task means in
    elim c.then-is_given.branch [
      | then-is_given-via-then-is_given w ↦ false≢true (sym asked.1 ∙ (sym c.is_given.ensures ∙ w.if-is_given.true))
      | then-is_given-via-else-is_given+then-is_flagged w ↦ false≢true (sym asked.2 ∙ (sym w.is_flagged.ensures ∙ w.if-is_flagged.true))
    ]

pub returns-clause-some : goal.returns-clause-some
returns-clause-some c =
    let rows = found_rows c.args.matches.now in
    let found = found_of c.args.matches.now in
    some_sample rows (first_of (codes "sample") rows) (first_of (codes "count") rows) c.in-Some.number.now c.in_ok-count.count.now
    (text_found found (codes "sample") c.get_str.result c.get_str.ensures c.in-Some.number c.in-Some.is)
    (text_found found (codes "count") c.get_str-2.result c.get_str-2.ensures c.in_ok-count.count c.in_ok-count.was)
    c.sample_of.result (sym c.is_given.ensures ∙ c.if-is_given.false) (sym c.is_flagged.ensures ∙ c.if-is_flagged.false) c.sample_of.ensures.some

pub returns-clause-none : goal.returns-clause-none
returns-clause-none c =
    let rows = found_rows c.args.matches.now in
    let found = found_of c.args.matches.now in
    no_sample rows (first_of (codes "sample") rows) (first_of (codes "count") rows) c.in-Some.number.now c.in_ok-count.count.now
    (text_found found (codes "sample") c.get_str.result c.get_str.ensures c.in-Some.number c.in-Some.is)
    (text_found found (codes "count") c.get_str-2.result c.get_str-2.ensures c.in_ok-count.count c.in_ok-count.was)
    c.sample_of.result c.sample_of.ensures.none
