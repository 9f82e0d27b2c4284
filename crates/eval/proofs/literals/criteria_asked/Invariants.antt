use Rattle.std.proofs.Common.{◌≡◌, map, take}
use Rattle.eval.specs.Literals.{interval_of}
use Rattle.eval.specs.Values.{asked}
use Rattle.eval.proofs.literals.criteria_asked.Given as goal

abbrev pub invariant-loop-criterion : goal.invariant-loop-criterion
invariant-loop-criterion l = map interval_of l.items.items ≡ map asked (take l.criterion-index l.criteria)
