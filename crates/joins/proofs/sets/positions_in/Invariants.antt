use Rattle.std.proofs.Common.{◌≡◌, [], get_or}
use Rattle.std.specs.List.{filter}
use Rattle.relations.specs.Positions.{numbers}
use Rattle.joins.specs.Sets.{is_kept}
use Rattle.joins.proofs.sets.positions_in.Given as goal

abbrev pub invariant-loop-at : goal.invariant-loop-at
invariant-loop-at g l = l.positions ≡ filter (λ i. is_kept l.among l.index (get_or l.table.rows i [])) (numbers l.at)
