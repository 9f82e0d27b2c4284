use Rattle.watches.specs.Groups.{IsReserved}
use Rattle.watches.proofs.Stepping.{AreDone}
use Rattle.watches.proofs.listed.reserve_all.Given as goal

abbrev pub invariant-loop-watches : goal.invariant-loop-watches
invariant-loop-watches l = AreDone (IsReserved l.view l.more) l.fn.list l.list l.watches-index
