use Rattle.std.proofs.Common.{◌≡◌, [], get_or, map, take}
use Rattle.relations.specs.Columns.{values_at}
use Rattle.grouping.proofs.grouped.rows_at.Given as goal

abbrev pub invariant-loop-position : goal.invariant-loop-position
invariant-loop-position g l = l.rows ≡ map (λ i. values_at l.columns (get_or l.table.rows i [])) (take l.position-index l.positions)
