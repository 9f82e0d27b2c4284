use Rattle.std.proofs.Common.{◌≡◌, take}
use Rattle.std.specs.List.{count_by}
use Rattle.std.specs.Ordering.{is_lt}
use Rattle.relations.specs.Searching.{asked_cmp}
use Rattle.relations.proofs.searching.count_before.Given as goal

abbrev pub invariant-loop-row : goal.invariant-loop-row
invariant-loop-row g l = l.count ≡ count_by (λ row. is_lt (asked_cmp (g.T.TableRead.schema l.table) l.keys l.criteria row)) (take l.row (g.T.TableRead.rows l.table))
