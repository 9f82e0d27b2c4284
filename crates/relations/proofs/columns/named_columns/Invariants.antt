use Rattle.std.proofs.Common.{◌≡◌, map, take}
use Rattle.relations.specs.Columns.{column_of}
use Rattle.relations.specs.Rows.{once}
use Rattle.relations.proofs.columns.named_columns.Given as goal

abbrev pub invariant-loop-at : goal.invariant-loop-at
invariant-loop-at l = l.columns ≡ map (column_of l.schema) (once (take l.at l.names))
