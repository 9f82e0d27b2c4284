use Rattle.std.proofs.Common.{sym, ◌∙◌}
use Rattle.mapped.proofs.Keyed.{ascend_from}
use Rattle.mapped.proofs.ordered.Ordered.make.Goals as goal

pub returns-in-None-clause-ascend : goal.returns-in-None-clause-ascend
returns-in-None-clause-ascend g c = ascend_from c.args.keys (g.T.TableRead.rows c.args.rows.now) (sym c.first_unordered.ensures ∙ c.in-None.is)
