use Rattle.std.proofs.Common.{subst}
use Rattle.recovery.specs.Contents.{FitWhereverCut}
use Rattle.recovery.proofs.PlainTexts.{all_fit_by_parts, long_ones_fit, on_false, on_true}
use Rattle.recovery.proofs.contents.all_fit.Goals as goal

pub returns-then-fit_at_once-clause-fit : goal.returns-then-fit_at_once-clause-fit
returns-then-fit_at_once-clause-fit c =
    on_true c.long_values_fit.result
    (all_fit_by_parts c.args.content c.args.column.now.values (subst (FitWhereverCut c.args.content) c.requires.short c.if-fit_at_once.ensures))
    c.long_values_fit.ensures.fit

pub returns-then-fit_at_once-clause-unfit : goal.returns-then-fit_at_once-clause-unfit
returns-then-fit_at_once-clause-unfit c =
    on_false c.long_values_fit.result (long_ones_fit c.args.content c.args.column.now.values) c.long_values_fit.ensures.unfit
