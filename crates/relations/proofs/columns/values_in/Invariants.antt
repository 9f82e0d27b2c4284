use Rattle.std.proofs.Common.{◌≡◌, [], take, get_or}
use Rattle.relations.specs.Columns.{values_at}
use Rattle.relations.proofs.columns.values_in.Given as goal

abbrev pub invariant-loop-col : goal.invariant-loop-col
invariant-loop-col g l = l.values ≡ values_at (take l.col-index l.columns) (get_or (g.T.TableRead.rows l.table) l.row [])
