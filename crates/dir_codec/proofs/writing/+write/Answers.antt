use Rattle.std.proofs.Common.{ap, arith}
use Rattle.dir_codec.specs.DirCode.{columns_weight, entry_weight, tables_weight}
use Rattle.dir_codec.specs.Values.{entry_of}
use Rattle.dir_codec.specs.DirFalls.{bodies_weight-from}
use Rattle.dir_codec.proofs.Written.{body_weight, column_weight}
use Rattle.dir_codec.proofs.writing.+write.Goals as goal

pub write_bodies-write_body-requires : goal.write_bodies-write_body-requires
write_bodies-write_body-requires t c =
    let whole = ap tables_weight c.as_slice-body-items.ensures in
    (omega (arith, whole, body_weight c.as_slice-body-items.result.now c.loop-body.body-index c.body-item.result c.loop-body-test.true c.body-item.is, c.decreases), tt)

pub write_column-write_bodies-requires : goal.write_column-write_bodies-requires
write_column-write_bodies-requires t c =
    let seen = ap (λ k. entry_weight (entry_of k)) c.in-Views.is in
    (omega (arith, seen, bodies_weight-from c.in-Views.bodies, c.decreases), tt)

pub write_columns-write_column-requires : goal.write_columns-write_column-requires
write_columns-write_column-requires t c =
    let whole = ap columns_weight c.as_slice-column-items.ensures in
    (omega (arith, whole, column_weight c.as_slice-column-items.result.now c.loop-column.column-index c.column-item.result c.loop-column-test.true c.column-item.is, c.decreases), tt)
