use Rattle.kept_counts.specs.Following.{Forgets}
use Rattle.kept_counts.proofs.Stepping.{AreDone}
use Rattle.kept_counts.proofs.listed.forget_all.Given as goal

abbrev pub invariant-loop-entry : goal.invariant-loop-entry
invariant-loop-entry l = AreDone (Forgets l.view) l.fn.list l.list l.entry-index
