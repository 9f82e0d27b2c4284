use Rattle.std.proofs.Common.{length}
use Rattle.mk_value.specs.Heading.{Domain}
use Rattle.mk_value.specs.Kinds.{domain_of}
use Rattle.mk_value.specs.declared.schema.Kind.TheVariants as kind
use Rattle.tables.specs.Read.{values_read}
use Rattle.tables.specs.Stored.{stored_of}
use Rattle.tables.proofs.Cells.{IfOk-then}
use Rattle.restructure.proofs.Converted.{same_column, from_kind, at_kind, texts_as_bytes, defaulted, other_than_bytes}
use Rattle.restructure.proofs.conversion.to_bytes.Goals as goal

pub returns-in-B : goal.returns-in-B
returns-in-B c =
    let k = c.args.old.kind.now in
    let was = stored_of c.args.old.col.now in
    let n = length (values_read c.args.old) in
    IfOk-then c.same.result c.same.ensures
    (λ col e. from_kind k kind.B Domain.bytes was (stored_of col) c.in-B.is (same_column Domain.bytes n was (stored_of col) tt (at_kind k kind.B n was c.in-B.is c.requires.whole) e))

pub returns-in_ok-unplaced-in-S : goal.returns-in_ok-unplaced-in-S
returns-in_ok-unplaced-in-S c =
    let k = c.args.old.kind.now in
    let was = stored_of c.args.old.col.now in
    let n = length (values_read c.args.old) in
    from_kind k kind.S Domain.bytes was _ c.in-S.is
    (texts_as_bytes n was c.blobs.result.now c.in_ok-unplaced-in-S.field-0 (at_kind k kind.S n was c.in-S.is c.requires.whole) c.blobs.ensures c.in_ok-unplaced-in-S.ensures)

pub returns-in_default : goal.returns-in_default
returns-in_default c =
    let k = c.args.old.kind.now in
    let was = stored_of c.args.old.col.now in
    let n = length (values_read c.args.old) in
    IfOk-then c.default_column.result c.default_column.ensures
    (λ col h. defaulted n c.args.rows (domain_of k) Domain.bytes was (stored_of col) (other_than_bytes k c.in_default.not-B c.in_default.not-S) c.requires.whole c.requires.rows h)
