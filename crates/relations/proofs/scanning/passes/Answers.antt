use Rattle.std.proofs.Common.{get_or, ap, sym, ◌∙◌}
use Rattle.relations.proofs.Asking.{within, outside}
use Rattle.relations.proofs.scanning.passes.Goals as goal

pub returns-then-not-is_within : goal.returns-then-not-is_within
returns-then-not-is_within g c =
    sym (sym c.loop-at.invariant ∙ outside (g.T.TableRead.schema c.args.table.now) c.args.criteria.now c.args.columns.now (g.T.TableRead.rows c.args.table.now) c.args.row c.loop-at.at (get_or c.as_slice-columns.result.now c.loop-at.at 0) c.index-criteria-at.result c.requires.resolved c.loop-at-test.true c.index-criteria-at.is
    (ap (λ cs. get_or cs c.loop-at.at 0) c.as_slice-columns.ensures) (sym c.is_within.ensures ∙ c.if-not-is_within.true))

pub loop-at-preserved : goal.loop-at-preserved
loop-at-preserved g c =
    within (g.T.TableRead.schema c.args.table.now) c.args.criteria.now c.args.columns.now (g.T.TableRead.rows c.args.table.now) c.args.row c.loop-at.at (get_or c.as_slice-columns.result.now c.loop-at.at 0) c.index-criteria-at.result c.requires.resolved c.loop-at-test.true c.index-criteria-at.is
    (ap (λ cs. get_or cs c.loop-at.at 0) c.as_slice-columns.ensures) (sym c.is_within.ensures ∙ c.if-not-is_within.false)
    ∙ c.loop-at.invariant
