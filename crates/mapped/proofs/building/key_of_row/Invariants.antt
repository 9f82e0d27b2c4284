use Rattle.std.proofs.Common.{◌≡◌, [], take, get_or}
use Rattle.mapped.proofs.building.key_of_row.Given as goal

abbrev pub invariant-loop-col : goal.invariant-loop-col
invariant-loop-col g l = l.key ≡ take l.col (get_or (g.T.TableRead.rows l.rows) l.row [])
