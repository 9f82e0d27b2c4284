use Rattle.std.proofs.Common.{◌≡◌, [], drop, get_or}
use Rattle.relations.specs.Searching.{asked_cmp}
use Rattle.relations.proofs.searching.cmp_asked.Given as goal

abbrev pub invariant-loop-at : goal.invariant-loop-at
invariant-loop-at g l =
    asked_cmp (g.T.TableRead.schema l.table) l.keys l.criteria (get_or (g.T.TableRead.rows l.table) l.row [])
    ≡ asked_cmp (g.T.TableRead.schema l.table) (drop l.at l.keys) (drop l.at l.criteria) (get_or (g.T.TableRead.rows l.table) l.row [])
