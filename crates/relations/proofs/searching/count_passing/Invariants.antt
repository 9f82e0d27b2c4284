use Rattle.std.proofs.Common.{◌≡◌, get_or, take}
use Rattle.std.specs.List.{count_by}
use Rattle.relations.specs.Criteria.{is_in_range}
use Rattle.relations.specs.Scanning.{IsWindow}
use Rattle.relations.proofs.searching.count_passing.Given as goal

abbrev pub invariant-loop-row : goal.invariant-loop-row
invariant-loop-row g l =
    (l.count ≡ count_by (is_in_range (g.T.TableRead.schema l.table) l.criteria) (take l.row (g.T.TableRead.rows l.table)))
    × IsWindow (g.T.TableRead.rows l.table) (get_or l.columns 0 0) l.window
