use Rattle.std.proofs.Common.{◌≡◌, map, take}
use Rattle.derived.specs.Operators.{renamed}
use Rattle.derived.proofs.columns.renamed_schema.Given as goal

abbrev pub invariant-loop-prop : goal.invariant-loop-prop
invariant-loop-prop l = l.props ≡ map (renamed l.from l.to) (take l.prop-index l.schema)
