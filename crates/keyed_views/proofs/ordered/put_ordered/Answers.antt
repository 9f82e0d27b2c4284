use Rattle.std.proofs.Common.{sym, subst}
use Rattle.mapped.specs.Keys.{AscendByKey}
use Rattle.keyed_views.specs.Keyed.{edits_of}
use Rattle.row_edits.specs.Edits.{edited_by}
use Rattle.keyed_views.proofs.Ordering.{put_ascends}
use Rattle.keyed_views.proofs.ordered.put_ordered.Goals as goal

pub returns-clause-ascends : goal.returns-clause-ascends
returns-clause-ascends g c = λ row is.
    let rows = g.T.TableRead.rows c.args.rows.now in
    let e = c.stands-low.ensures in
    subst (λ edit. AscendByKey c.args.ordered.now (edited_by row (edits_of edit) rows)) (sym c.put_at.ensures)
    (put_ascends c.args.ordered.now rows c.args.key.now row c.requires.ascend c.requires.full is c.stands-low.result.0 e.place c.stands-low.result.1 e.has)
