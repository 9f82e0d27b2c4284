use Rattle.std.proofs.Common.{◌≡◌, drop, get_or}
use Rattle.std.specs.List.{position_from}
use Rattle.relations.specs.Criteria.{is_in_range}
use Rattle.relations.specs.Scanning.{IsWindow}
use Rattle.relations.proofs.passing.first_from.Given as goal

abbrev pub invariant-loop-row : goal.invariant-loop-row
invariant-loop-row g l =
    (position_from (is_in_range (g.T.TableRead.schema l.table) l.criteria) l.start (drop l.start (g.T.TableRead.rows l.table))
    ≡ position_from (is_in_range (g.T.TableRead.schema l.table) l.criteria) l.row (drop l.row (g.T.TableRead.rows l.table)))
    × IsWindow (g.T.TableRead.rows l.table) (get_or l.columns 0 0) l.window
