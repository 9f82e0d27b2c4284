use Rattle.std.proofs.Common.{[], get_or, sym, subst}
use Rattle.viewers.specs.Laws.{AreArguments}
use Rattle.viewed.proofs.Arguments.{arguments}
use Rattle.viewed.proofs.asking.answer_for.Goals as goal

pub answer-requires : goal.answer-requires
answer-requires g c =
    let row = get_or (g.T.TableRead.rows c.args.table.now) c.args.row [] in
    subst (AreArguments (g.V.Viewer.meaning c.args.viewer.now).takes) (sym c.in_ok-values.ensures)
    (arguments (g.T.TableRead.schema c.args.table.now) (g.V.Viewer.meaning c.args.viewer.now).takes c.args.columns.now row c.requires.asked (c.size-size.ensures.whole.whole c.args.row [] c.requires.row_in))
