use Rattle.std.proofs.Common.{◌≡◌, take, map}
use Rattle.mk_value.specs.Tables.{number_in}
use Rattle.tables.specs.Homes.{column_of}
use Rattle.tables.proofs.build.ints_of_rows.Given as goal

abbrev pub invariant-loop-row : goal.invariant-loop-row
invariant-loop-row l = l.values.items ≡ map number_in (take l.row-index (column_of l.fn.rows l.fn.at))
