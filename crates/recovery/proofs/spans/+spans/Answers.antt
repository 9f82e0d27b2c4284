use Rattle.std.proofs.Common.{ap, arith}
use Rattle.dir_codec.specs.DirCode.{columns_weight, entry_weight, tables_weight}
use Rattle.dir_codec.specs.Values.{entry_of}
use Rattle.dir_codec.specs.DirFalls.{bodies_weight-from}
use Rattle.dir_codec.proofs.Written.{body_weight, column_weight}
use Rattle.recovery.proofs.spans.+spans.Goals as goal

pub push_bodies-push_columns-requires : goal.push_bodies-push_columns-requires
push_bodies-push_columns-requires t c =
    let whole = ap tables_weight c.as_slice-body-items.ensures in
    (omega (arith, whole, body_weight c.as_slice-body-items.result.now c.loop-body.body-index c.body-item.result c.loop-body-test.true c.body-item.is, c.decreases), tt)

pub push_column-push_bodies-requires : goal.push_column-push_bodies-requires
push_column-push_bodies-requires t c =
    let seen = ap (λ k. entry_weight (entry_of k)) c.in-Views.is in
    (omega (arith, seen, bodies_weight-from c.in-Views.bodies, c.decreases), tt)

pub push_columns-push_column-requires : goal.push_columns-push_column-requires
push_columns-push_column-requires t c =
    let whole = ap columns_weight c.as_slice-column-items.ensures in
    (omega (arith, whole, column_weight c.as_slice-column-items.result.now c.loop-column.column-index c.column-item.result c.loop-column-test.true c.column-item.is, c.decreases), tt)
