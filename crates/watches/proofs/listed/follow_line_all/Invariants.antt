use Rattle.row_edits.specs.Events.{count_all}
use Rattle.watches.specs.Groups.{Follows}
use Rattle.watches.proofs.Stepping.{AreDone}
use Rattle.watches.proofs.listed.follow_line_all.Given as goal

abbrev pub invariant-loop-watches : goal.invariant-loop-watches
invariant-loop-watches l =
    AreDone (Follows l.view (count_all l.line.edits.now) l.line.before.now.schema l.line.after.now.rows) l.fn.list l.list l.watches-index
