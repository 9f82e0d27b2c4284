use Rattle.std.proofs.Common.{◌≡◌, ◌++◌, ◌-◌, drop}
use Rattle.relations.specs.Positions.{numbers}
use Rattle.derived.specs.Operators.{every}
use Rattle.derived.proofs.slicing.steps.Given as goal

abbrev pub invariant-loop-at : goal.invariant-loop-at
invariant-loop-at l = l.positions.items ++ every l.step 0 (drop l.at (numbers l.end)) ≡ every l.step l.fn.first (numbers l.end)

abbrev pub decreases-loop-at : goal.decreases-loop-at
decreases-loop-at l = l.end - l.at
