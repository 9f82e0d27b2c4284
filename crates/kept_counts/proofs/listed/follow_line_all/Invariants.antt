use Rattle.kept_counts.specs.Following.{Follows}
use Rattle.kept_counts.proofs.Stepping.{AreDone}
use Rattle.kept_counts.proofs.listed.follow_line_all.Given as goal

abbrev pub invariant-loop-entry : goal.invariant-loop-entry
invariant-loop-entry l = AreDone (Follows l.view l.line.before.now.schema l.line.after.now.rows) l.fn.list l.list l.entry-index
