use Rattle.std.proofs.Common.{◌≡◌, take, drop}
use Rattle.mk_value.specs.Tables.{column_numbers}
use Rattle.mk_value.proofs.table.TableRead.fill.Given as goal

abbrev pub invariant-loop-at : goal.invariant-loop-at
invariant-loop-at g l = take l.at l.into ≡ take l.at (drop l.from (column_numbers (g.Self.TableRead.rows l.self) l.col))
