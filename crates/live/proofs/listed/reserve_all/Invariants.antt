use Rattle.live.proofs.Room.{AreReserved}
use Rattle.live.proofs.listed.reserve_all.Given as goal

abbrev pub invariant-loop-watch : goal.invariant-loop-watch
invariant-loop-watch l = AreReserved l.more l.fn.watches l.watches l.watch-index
