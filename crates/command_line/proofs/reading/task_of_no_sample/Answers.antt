use Rattle.std.proofs.Common.{◌∙◌, codes, sym}
use Rattle.clap.specs.Matches.{found_of}
use Rattle.clap.specs.Walk.{first_of}
use Rattle.command_line.specs.Asking.{found_rows}
use Rattle.command_line.proofs.Found.{not_found, some_found}
use Rattle.command_line.proofs.Tasks.{counted_alone, by_flags, by_no_flags}
use Rattle.command_line.proofs.reading.task_of_no_sample.Goals as goal

pub returns-then-is_some-clause-none : goal.returns-then-is_some-clause-none
returns-then-is_some-clause-none c = λ task means.
    let rows = found_rows c.args.matches.now in
    counted_alone rows (first_of (codes "count") rows) task
    (some_found (found_of c.args.matches.now) (codes "count") c.get_str.result c.get_str.ensures (sym c.is_some.ensures ∙ c.if-is_some.true)) means

pub returns-clause-some : goal.returns-clause-some
returns-clause-some c =
    let rows = found_rows c.args.matches.now in
    by_flags rows (first_of (codes "count") rows) c.flagged_task.result c.flagged_task.ensures
    (not_found (found_of c.args.matches.now) (codes "count") c.get_str.result c.get_str.ensures (sym c.is_some.ensures ∙ c.if-is_some.false))

pub returns-clause-none : goal.returns-clause-none
returns-clause-none c =
    let rows = found_rows c.args.matches.now in
    by_no_flags rows (first_of (codes "count") rows) c.flagged_task.result c.flagged_task.ensures
    (not_found (found_of c.args.matches.now) (codes "count") c.get_str.result c.get_str.ensures (sym c.is_some.ensures ∙ c.if-is_some.false))
