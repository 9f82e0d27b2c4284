use Rattle.std.proofs.Common.{◌≡◌, take, map}
use Rattle.tables.specs.Shapes.{bytes_in}
use Rattle.mk_value.specs.Buffer.{Buffer}
use Rattle.tables.specs.Homes.{column_of}
use Rattle.tables.proofs.build.blobs_of_rows.Given as goal

abbrev pub invariant-loop-row : goal.invariant-loop-row
invariant-loop-row l = map (λ (value : Buffer). value.bytes) l.values.items ≡ map bytes_in (take l.row-index (column_of l.fn.rows l.fn.at))
