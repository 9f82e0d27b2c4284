use Rattle.std.proofs.Common.{◌≡◌, take, map}
use Rattle.restructure.specs.Restructuring.{narrowed}
use Rattle.restructure.proofs.conversion.narrow_all.Given as goal

abbrev pub invariant-loop-at : goal.invariant-loop-at
invariant-loop-at l = l.values.items ≡ map narrowed (take l.at l.numbers.values)
