use Rattle.std.proofs.Common.{◌≡◌, [], get_or}
use Rattle.std.specs.List.{filter}
use Rattle.relations.specs.Criteria.{is_in_range}
use Rattle.relations.specs.Positions.{numbers}
use Rattle.relations.specs.Scanning.{IsWindow}
use Rattle.relations.proofs.passing.passing_positions.Given as goal

abbrev pub invariant-loop-row : goal.invariant-loop-row
invariant-loop-row g l =
    (l.positions ≡ filter (λ i. is_in_range (g.T.TableRead.schema l.table) l.criteria (get_or (g.T.TableRead.rows l.table) i [])) (numbers l.row))
    × IsWindow (g.T.TableRead.rows l.table) (get_or l.columns 0 0) l.window
