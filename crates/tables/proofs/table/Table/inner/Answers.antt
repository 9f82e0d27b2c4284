use Rattle.mk_value.specs.Kinds.{domain_of}
use Rattle.tables.specs.Stored.{stored_of}
use Rattle.tables.proofs.Setting.{inner_is}
use Rattle.tables.proofs.table.Table.inner.Goals as goal

pub returns-clause-value : goal.returns-clause-value
returns-clause-value c =
    inner_is c.args.self.now _ c.args.row c.args.col (domain_of c.column.result.kind.now) (stored_of c.column.result.col.now) c.views.result.now c.get-table.result c.requires.row_in c.column.ensures.values c.column.ensures.whole
    c.column.ensures.kind c.column.ensures.home c.views.ensures c.get-table.ensures
