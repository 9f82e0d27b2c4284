use Rattle.std.proofs.Common.{◌≡◌, ◌++◌, map, take, drop}
use Rattle.live.specs.Turns.{still_watch}
use Rattle.live.proofs.edited.answer_nothing.Given as goal

abbrev pub invariant-loop-watch : goal.invariant-loop-watch
invariant-loop-watch l = l.watches ≡ map still_watch (take l.watch-index l.fn.watches) ++ drop l.watch-index l.fn.watches
