use Rattle.std.proofs.Common.{◌≡◌, drop}
use Rattle.relations.specs.Refusals.{unfit}
use Rattle.relations.proofs.checks.check_bounds.Given as goal

abbrev pub invariant-loop-criterion : goal.invariant-loop-criterion
invariant-loop-criterion l = unfit l.schema (drop l.criterion-index l.criteria) ≡ unfit l.schema l.criteria
