use Rattle.std.proofs.Common.{◌≡◌, take}
use Rattle.mk_value.specs.Tables.{column_numbers}
use Rattle.relations.specs.Rows.{rows_at}
use Rattle.derived.proofs.derived.fill_at.Given as goal

abbrev pub invariant-loop-at : goal.invariant-loop-at
invariant-loop-at g l = take l.at l.into ≡ take l.at (column_numbers (rows_at l.base.rows l.positions) l.col)
