use Rattle.std.proofs.Common.{◌≡◌, take}
use Rattle.relations.specs.Columns.{values_at}
use Rattle.live_counts.proofs.filter.arguments_of.Given as goal

abbrev pub invariant-loop-col : goal.invariant-loop-col
invariant-loop-col l = l.values ≡ values_at (take l.col-index l.columns) l.row
