use Rattle.std.proofs.Common.{◌≡◌, map, take}
use Rattle.relations.specs.Criteria.{Interval}
use Rattle.relations.specs.Columns.{column_of}
use Rattle.relations.proofs.passing.columns_of.Given as goal

abbrev pub invariant-loop-criterion : goal.invariant-loop-criterion
invariant-loop-criterion l = l.columns ≡ map (λ (b : Interval). column_of l.schema b.prop) (take l.criterion-index l.criteria)
