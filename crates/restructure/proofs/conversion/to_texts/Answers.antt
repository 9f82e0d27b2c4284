use Rattle.std.proofs.Common.{length}
use Rattle.mk_value.specs.Heading.{Domain}
use Rattle.mk_value.specs.Kinds.{domain_of}
use Rattle.mk_value.specs.declared.schema.Kind.TheVariants as kind
use Rattle.tables.specs.Read.{values_read}
use Rattle.tables.specs.Stored.{stored_of}
use Rattle.tables.proofs.Cells.{IfOk-then}
use Rattle.restructure.proofs.Converted.{same_column, from_kind, at_kind, bytes_as_texts, defaulted, other_than_texts}
use Rattle.restructure.proofs.conversion.to_texts.Goals as goal

pub returns-in-S : goal.returns-in-S
returns-in-S c =
    let k = c.args.old.kind.now in
    let was = stored_of c.args.old.col.now in
    let n = length (values_read c.args.old) in
    IfOk-then c.same.result c.same.ensures
    (λ col e. from_kind k kind.S Domain.text was (stored_of col) c.in-S.is (same_column Domain.text n was (stored_of col) tt (at_kind k kind.S n was c.in-S.is c.requires.whole) e))

pub returns-in_ok-texts_of-in-B : goal.returns-in_ok-texts_of-in-B
returns-in_ok-texts_of-in-B c =
    let k = c.args.old.kind.now in
    let was = stored_of c.args.old.col.now in
    let n = length (values_read c.args.old) in
    from_kind k kind.B Domain.text was _ c.in-B.is
    (bytes_as_texts n was c.blobs.result.now c.in_ok-texts_of-in-B.field-0 (at_kind k kind.B n was c.in-B.is c.requires.whole) c.blobs.ensures c.in_ok-texts_of-in-B.ensures.values c.in_ok-texts_of-in-B.ensures.home)

pub returns-in_default : goal.returns-in_default
returns-in_default c =
    let k = c.args.old.kind.now in
    let was = stored_of c.args.old.col.now in
    let n = length (values_read c.args.old) in
    IfOk-then c.default_column.result c.default_column.ensures
    (λ col h. defaulted n c.args.rows (domain_of k) Domain.text was (stored_of col) (other_than_texts k c.in_default.not-S c.in_default.not-B) c.requires.whole c.requires.rows h)
