use Rattle.std.proofs.Common.{◌≡◌, map, take}
use Rattle.relations.specs.Columns.{column_of}
use Rattle.kept_counts.proofs.making.columns_of.Given as goal

abbrev pub invariant-loop-name : goal.invariant-loop-name
invariant-loop-name l = l.columns ≡ map (column_of l.schema) (take l.name-index l.names)
