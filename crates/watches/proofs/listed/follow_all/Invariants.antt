use Rattle.row_edits.specs.Events.{count_of}
use Rattle.watches.specs.Groups.{Follows}
use Rattle.watches.proofs.Stepping.{AreDone}
use Rattle.watches.proofs.listed.follow_all.Given as goal

abbrev pub invariant-loop-watches : goal.invariant-loop-watches
invariant-loop-watches l = AreDone (Follows l.view (count_of l.edit) l.rows.schema l.rows.rows) l.fn.list l.list l.watches-index
