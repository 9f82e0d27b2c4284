use Rattle.std.proofs.Common.{◌∷◌, [], get_or, ◌++◌, arith}
use Rattle.mk_value.specs.Literals.{row_text}
use Rattle.mk_value.proofs.Appending.{written}
use Rattle.mk_value.proofs.Cells.{row_length}
use Rattle.mk_value.proofs.Printed.{row_in_pieces}
use Rattle.mk_value.proofs.print.print_row_of.Goals as goal

pub returns : goal.returns
returns g c =
    let schema = g.T.TableRead.schema c.args.table.now in
    let rows = g.T.TableRead.rows c.args.table.now in
    let columns = row_length rows schema c.args.row c.size-size.ensures.whole c.requires in
    let row = get_or (g.T.TableRead.rows c.args.table.now) c.args.row [] in
    written c.append_str-2.result c.append_more_cells.new.out c.append_str-2.new.out (41 ∷ []) (c.args.out.now.bytes ++ row_text row) c.append_str-2.ensures
    (row_in_pieces c.args.out.now.bytes c.append_str.new.out.bytes c.append_cell.new.out.bytes c.append_more_cells.new.out.bytes row (omega (arith, columns, c.schema.ensures.whole.limits.some))
    c.in_ok-append_str.ensures.bytes c.in_ok-append_cell.ensures c.in_ok-append_more_cells.ensures)
