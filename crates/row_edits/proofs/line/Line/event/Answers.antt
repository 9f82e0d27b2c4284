use Rattle.row_edits.proofs.Editing.{few_by}
use Rattle.row_edits.proofs.Showing.{edit_range, whole_range}
use Rattle.row_edits.proofs.line.Line.event.Goals as goal

pub event-requires-clause-in_range : goal.event-requires-clause-in_range
event-requires-clause-in_range g c =
    let s = c.args.self.now in
    let before = g.T.TableRead.rows s.before.now in
    let after = g.T.TableRead.rows s.after.now in
    let few = c.size-size.ensures.whole.few in (
      _,
      edit_range s.edits.now s.home before after s.line c.args.edit c.requires.edit_in,
      few_by _ _ (whole_range s.edits.now s.home before after s.line c.args.edit c.requires.edit_in) few,
    )
