use Rattle.std.proofs.Common.{◌≡◌, ◌++◌, map, take, drop}
use Rattle.live.specs.Putting.{closed_source}
use Rattle.live.proofs.listed.close_sources.Given as goal

abbrev pub invariant-loop-watch : goal.invariant-loop-watch
invariant-loop-watch l = l.watches ≡ map (closed_source l.taken) (take l.watch-index l.fn.watches) ++ drop l.watch-index l.fn.watches
