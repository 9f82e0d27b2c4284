use Rattle.std.proofs.Common.{◌≡◌, take}
use Rattle.kept_counts.proofs.making.positions_of.Given as goal

abbrev pub invariant-loop-column : goal.invariant-loop-column
invariant-loop-column l = l.positions ≡ take l.column-index l.columns
