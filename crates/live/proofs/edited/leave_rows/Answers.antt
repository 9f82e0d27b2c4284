use Rattle.std.proofs.Common.{ap, sym, ◌∙◌}
use Rattle.live.specs.Leaving.{goes_at, kept_left}
use Rattle.live.proofs.Leaving.{kept_span}
use Rattle.live.proofs.edited.leave_rows.Goals as goal

pub returns-in-None-clause-kept : goal.returns-in-None-clause-kept
returns-in-None-clause-kept c =
    c.leave.ensures.kept ∙ kept_span c.args.at c.args.count c.args.watch.now.kept
    ∙ ap (λ o. kept_left (goes_at c.args.at c.args.count c.args.below.now o) c.args.watch.now.kept) (sym (sym c.source.ensures ∙ c.in-None.is))
