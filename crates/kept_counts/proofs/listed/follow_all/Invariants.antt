use Rattle.kept_counts.specs.Following.{FollowsOn}
use Rattle.kept_counts.proofs.Stepping.{AreDone}
use Rattle.kept_counts.proofs.listed.follow_all.Given as goal

abbrev pub invariant-loop-entry : goal.invariant-loop-entry
invariant-loop-entry l = AreDone (FollowsOn l.view l.rows.schema l.rows.rows) l.fn.list l.list l.entry-index
