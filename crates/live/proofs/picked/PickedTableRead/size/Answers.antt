use Rattle.relations.proofs.Wholes.{rows_at_fit}
use Rattle.live.proofs.picked.PickedTableRead.size.Goals as goal

pub returns-clause-whole : goal.returns-clause-whole
returns-clause-whole g c =
    let s = c.args.self.now in
    rows_at_fit (g.T.TableRead.rows s.rows.now) (g.T.TableRead.schema s.rows.now) s.at.now c.size-size.ensures.whole s.within s.few
