use Rattle.mk_value.proofs.Cells.{cell_is_of}
use Rattle.mk_value.proofs.Lending.{lent_utf8}
use Rattle.mk_value.specs.Data.{cell}
use Rattle.mk_value.specs.Tables.{domain_at}
use Rattle.mk_value.proofs.print.append_cell.Goals as goal

pub append_lent_text-requires : goal.append_lent_text-requires
append_lent_text-requires g c =
    let rows = g.T.TableRead.rows c.args.table.now in
    let schema = g.T.TableRead.schema c.args.table.now in
    lent_utf8 c.in-S.text (cell rows c.args.row c.args.col) (domain_at schema c.args.col) (rw c.in-S.is at c.lend.ensures)
    (cell_is_of rows schema c.args.row c.args.col c.size-size.ensures.whole c.requires.row_in c.requires.col_in)
