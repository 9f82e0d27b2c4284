use Rattle.std.proofs.Common.{◌≡◌, drop, map}
use Rattle.relations.specs.Criteria.{valued}
use Rattle.relations.specs.Refusals.{unfit}
use Rattle.relations.proofs.literals.check_each.Given as goal

abbrev pub invariant-loop-item : goal.invariant-loop-item
invariant-loop-item g l = unfit l.schema (map (valued l.schema) (map g.L.LiteralBounds.bounds (drop l.item-index l.items))) ≡ unfit l.schema (map (valued l.schema) (map g.L.LiteralBounds.bounds l.items))
