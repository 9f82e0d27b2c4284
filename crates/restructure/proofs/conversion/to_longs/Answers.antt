use Rattle.std.proofs.Common.{length}
use Rattle.mk_value.specs.Heading.{Domain}
use Rattle.mk_value.specs.Kinds.{domain_of}
use Rattle.mk_value.specs.declared.schema.Kind.TheVariants as kind
use Rattle.tables.specs.Read.{values_read}
use Rattle.tables.specs.Stored.{stored_of}
use Rattle.tables.proofs.Cells.{IfOk-then}
use Rattle.restructure.proofs.Converted.{same_column, from_kind, at_kind, widened, defaulted, other_than_longs}
use Rattle.restructure.proofs.conversion.to_longs.Goals as goal

pub returns-in-L : goal.returns-in-L
returns-in-L c =
    let k = c.args.old.kind.now in
    let was = stored_of c.args.old.col.now in
    let n = length (values_read c.args.old) in
    IfOk-then c.same.result c.same.ensures
    (λ col e. from_kind k kind.L Domain.long was (stored_of col) c.in-L.is (same_column Domain.long n was (stored_of col) tt (at_kind k kind.L n was c.in-L.is c.requires.whole) e))

pub returns-in_ok-unplaced-in-I : goal.returns-in_ok-unplaced-in-I
returns-in_ok-unplaced-in-I c =
    let k = c.args.old.kind.now in
    let was = stored_of c.args.old.col.now in
    let n = length (values_read c.args.old) in
    from_kind k kind.I Domain.long was _ c.in-I.is
    (widened n was c.ints.result.now c.in_ok-unplaced-in-I.field-0 (at_kind k kind.I n was c.in-I.is c.requires.whole) c.ints.ensures c.in_ok-unplaced-in-I.ensures)

pub returns-in_default : goal.returns-in_default
returns-in_default c =
    let k = c.args.old.kind.now in
    let was = stored_of c.args.old.col.now in
    let n = length (values_read c.args.old) in
    IfOk-then c.default_column.result c.default_column.ensures
    (λ col h. defaulted n c.args.rows (domain_of k) Domain.long was (stored_of col) (other_than_longs k c.in_default.not-L c.in_default.not-I) c.requires.whole c.requires.rows h)
