use Rattle.std.proofs.Common.{◌≡◌, take}
use Rattle.relations.proofs.copies.copy_rows.Given as goal

abbrev pub invariant-loop-row : goal.invariant-loop-row
invariant-loop-row g l = l.rows ≡ take l.row (g.T.TableRead.rows l.table)
