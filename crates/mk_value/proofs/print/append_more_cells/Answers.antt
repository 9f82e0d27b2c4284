use Rattle.std.proofs.Common.{◌∙◌, ◌+◌, ◌-◌, ◌≤◌, [], ap, length, drop, get_or, ◌++◌, arith}
use Rattle.std.proofs.lemmas.List.{take_all, length-drop}
use Rattle.mk_value.specs.Literals.{more_values_text}
use Rattle.mk_value.proofs.Cells.{row_length}
use Rattle.mk_value.proofs.Printed.{cell_behind}
use Rattle.mk_value.proofs.print.append_more_cells.Goals as goal

-- one more value, behind its comma
pub loop-col-preserved : goal.loop-col-preserved
loop-col-preserved g c =
    let rows = g.T.TableRead.rows c.args.table.now in
    let columns = row_length rows (g.T.TableRead.schema c.args.table.now) c.args.row c.size-size.ensures.whole c.requires.row_in in
    cell_behind c.args.out.now.bytes c.loop-col.out.bytes c.append_str.new.out.bytes c.append_cell.new.out.bytes (get_or rows c.args.row [])
    (c.loop-col.col - 1) c.loop-col.col (c.loop-col.col + 1 - 1) (omega (arith, c.loop-col.auto.col)) (omega (arith, c.loop-col.auto.col)) (omega (arith, columns, c.requires.columns)) c.loop-col.invariant c.in_ok-append_str.ensures.bytes c.in_ok-append_cell.ensures

pub returns : goal.returns
returns g c =
    let rows = g.T.TableRead.rows c.args.table.now in
    let row = get_or rows c.args.row [] in
    let columns = row_length rows (g.T.TableRead.schema c.args.table.now) c.args.row c.size-size.ensures.whole c.requires.row_in in
    let full : length (drop 1 row) ≤ c.loop-col.col - 1 = omega (arith, columns, c.requires.columns, length-drop 1 row) in
    c.loop-col.invariant ∙ ap (λ xs. c.args.out.now.bytes ++ more_values_text xs) (take_all (c.loop-col.col - 1) (drop 1 row) full)
