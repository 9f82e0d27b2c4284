use Rattle.std.proofs.Common.{◌≡◌, ◌≤◌, ◌+◌, None, take}
use Rattle.live.specs.Chains.{AreNow}
use Rattle.live.specs.Putting.{spare}
use Rattle.row_edits.specs.Edits.{edited_by}
use Rattle.row_edits.specs.Events.{count_all}
use Rattle.row_edits.specs.Lines.{row_at}
use Rattle.watches.specs.Lines.{HaveFollowed, room_for}
use Rattle.watches.proofs.watching.follow_edits.Given as goal

abbrev pub invariant-loop-edit : goal.invariant-loop-edit
invariant-loop-edit g l = record {
  now : AreNow (g.T.TableRead.schema l.line.before.now) (edited_by (row_at (g.T.TableRead.rows l.line.after.now) l.line.home) (take l.edit l.line.edits.now) (g.T.TableRead.rows l.line.before.now)) l.watches.watches;
  followed : HaveFollowed (count_all (take l.edit l.line.edits.now)) l.fn.watches.watches l.watches.watches;
  noted : l.watches.noted ≡ None;
  spare_left : spare l.fn.watches ≤ spare l.watches + room_for (take l.edit l.line.edits.now);
}
