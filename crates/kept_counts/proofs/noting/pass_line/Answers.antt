use Rattle.std.proofs.Common.{refl, sym, subst}
use Rattle.live_counts.specs.Filtering.{IsFiltered}
use Rattle.watches.proofs.Eventful.{rows_first, rows_last}
use Rattle.kept_counts.specs.Keeping.{is_kept_by}
use Rattle.kept_counts.proofs.noting.pass_line.Goals as goal

pub pass_part-requires-clause-now : goal.pass_part-requires-clause-now
pass_part-requires-clause-now c =
    let line = c.args.line.now in
    subst (λ rows. IsFiltered (is_kept_by line.before.now.schema c.args.law c.args.props.now) rows c.loop-edit.passed.kept)
    (sym (rows_first line.edits.now line.home line.before.now.rows line.after.now.rows line.line c.loop-edit.edit c.loop-edit-test.true)) c.loop-edit.invariant

pub loop-edit-preserved : goal.loop-edit-preserved
loop-edit-preserved c =
    let line = c.args.line.now in
    subst (λ rows. IsFiltered (is_kept_by line.before.now.schema c.args.law c.args.props.now) rows c.pass_part.new.filter.kept)
    (rows_last line.edits.now line.home line.before.now.rows line.after.now.rows line.line c.loop-edit.edit c.loop-edit-test.true) (c.if-not-pass_part.ensures refl)
