use Rattle.std.proofs.Common.{◌≡◌, ◌-◌, ◌++◌, [], take, drop, get_or}
use Rattle.mk_value.specs.Literals.{more_values_text}
use Rattle.mk_value.proofs.print.append_more_cells.Given as goal

abbrev pub invariant-loop-col : goal.invariant-loop-col
invariant-loop-col g l = l.out.bytes ≡ l.fn.out.bytes ++ more_values_text (take (l.col - 1) (drop 1 (get_or (g.T.TableRead.rows l.table) l.row [])))
