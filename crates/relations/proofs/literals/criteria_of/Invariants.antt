use Rattle.std.proofs.Common.{◌≡◌, take, map}
use Rattle.relations.specs.Criteria.{valued}
use Rattle.relations.proofs.literals.criteria_of.Given as goal

abbrev pub invariant-loop-item : goal.invariant-loop-item
invariant-loop-item g l = l.criteria ≡ map (valued l.schema) (map g.L.LiteralBounds.bounds (take l.item-index l.items))
