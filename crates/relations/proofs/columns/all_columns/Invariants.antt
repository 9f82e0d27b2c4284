use Rattle.std.proofs.Common.{◌≡◌}
use Rattle.relations.specs.Positions.{numbers}
use Rattle.relations.proofs.columns.all_columns.Given as goal

abbrev pub invariant-loop-at : goal.invariant-loop-at
invariant-loop-at l = l.columns ≡ numbers l.at
