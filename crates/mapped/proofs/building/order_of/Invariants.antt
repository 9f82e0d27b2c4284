use Rattle.std.proofs.Common.{◌≡◌}
use Rattle.relations.specs.Positions.{numbers}
use Rattle.mapped.proofs.building.order_of.Given as goal

abbrev pub invariant-loop-at : goal.invariant-loop-at
invariant-loop-at l = l.order.items ≡ numbers l.at
