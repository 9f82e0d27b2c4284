use Rattle.std.proofs.Common.{◌≡◌, map, take}
use Rattle.eval.specs.Literals.{interval_of}
use Rattle.eval.specs.Values.{bounded}
use Rattle.eval.proofs.literals.bounds_asked.Given as goal

abbrev pub invariant-loop-bound : goal.invariant-loop-bound
invariant-loop-bound l = map interval_of l.items.items ≡ map bounded (take l.bound-index l.bounds)
