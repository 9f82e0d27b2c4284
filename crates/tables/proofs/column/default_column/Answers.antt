use Rattle.mk_value.specs.Data.{default_of}
use Rattle.mk_value.specs.Kinds.{domain_of}
use Rattle.mk_value.specs.Values.{datum_of}
use Rattle.tables.specs.Stored.{stored_of}
use Rattle.tables.proofs.Cells.{IfOk-then}
use Rattle.tables.proofs.Defaults.{repeated_made}
use Rattle.tables.proofs.column.default_column.Goals as goal

pub returns : goal.returns
returns c =
    let e = domain_of c.args.kind.now in
    IfOk-then c.inserted.result c.inserted.ensures
    (λ col made. repeated_made e c.args.count (datum_of c.default_of-value.result) (default_of e) (stored_of c.in_ok-empty.empty) (stored_of col) c.in_ok-empty.ensures c.default_of-value.ensures made)
