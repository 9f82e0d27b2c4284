use Rattle.mk_value.specs.Heading.{heading_of}
use Rattle.tables.specs.Stored.{stored_of}
use Rattle.tables.proofs.Reading.{lent_view}
use Rattle.tables.proofs.column.Column.lend.Goals as goal

pub returns-in-V : goal.returns-in-V
returns-in-V c =
    rw c.in-V.is
    (lent_view (heading_of c.in-V.field-0) (stored_of c.args.self.now.col.now) c.views.result.now c.args.row c.len.result c.get-in-V.result
    c.views.ensures c.get-in-V.ensures c.len.ensures.value)
