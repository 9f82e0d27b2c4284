use Rattle.std.proofs.Common.{sym, ◌∙◌}
use Rattle.mapped.proofs.Putting.{replaced, inserted}
use Rattle.mapped.proofs.ordered.Ordered.where_to_put.Goals as goal

pub returns-then-has_key-clause-ascends : goal.returns-then-has_key-clause-ascends
returns-then-has_key-clause-ascends g c row is =
    replaced c.args.self.now (g.T.TableRead.rows c.args.rows.now) c.args.key.now row c.lower_uncounted-at.result c.requires.ascend c.requires.full is c.lower_uncounted-at.ensures.place
    (sym c.has_key.ensures ∙ c.if-has_key.true)

pub returns-else-has_key-clause-ascends : goal.returns-else-has_key-clause-ascends
returns-else-has_key-clause-ascends g c row is =
    inserted c.args.self.now (g.T.TableRead.rows c.args.rows.now) c.args.key.now row c.lower_uncounted-at.result c.requires.ascend c.requires.full is c.lower_uncounted-at.ensures.place
    (sym c.has_key.ensures ∙ c.if-has_key.false)
