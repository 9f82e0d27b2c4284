use Rattle.std.proofs.Common.{◌≡◌, [], take, get_or}
use Rattle.relations.proofs.copies.copy_row.Given as goal

abbrev pub invariant-loop-col : goal.invariant-loop-col
invariant-loop-col g l = l.copy ≡ take l.col (get_or (g.T.TableRead.rows l.table) l.row [])
