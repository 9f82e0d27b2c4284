use Rattle.watches.specs.Groups.{Forgets}
use Rattle.watches.proofs.Stepping.{AreDone}
use Rattle.watches.proofs.listed.forget_all.Given as goal

abbrev pub invariant-loop-watches : goal.invariant-loop-watches
invariant-loop-watches l = AreDone (Forgets l.view) l.fn.list l.list l.watches-index
