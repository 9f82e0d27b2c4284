use Rattle.std.proofs.Common.{◌≡◌, [], drop, get_or}
use Rattle.relations.specs.Criteria.{is_in_range}
use Rattle.relations.proofs.scanning.passes.Given as goal

abbrev pub invariant-loop-at : goal.invariant-loop-at
invariant-loop-at g l =
    is_in_range (g.T.TableRead.schema l.table) (drop l.at l.criteria) (get_or (g.T.TableRead.rows l.table) l.row [])
    ≡ is_in_range (g.T.TableRead.schema l.table) (drop l.first l.criteria) (get_or (g.T.TableRead.rows l.table) l.row [])
