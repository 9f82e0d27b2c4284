use Rattle.std.proofs.Common.{arith}
use Rattle.bytes_col.proofs.CellLaws.{on_err_holds, chunk_stays, short_bound}
use Rattle.bytes_col.proofs.Inserted.{cell_put}
use Rattle.bytes_col.proofs.chunk.Chunk.put_then.Goals as goal

pub invariant_of-self-in_err-insert_then : goal.invariant_of-self-in_err-insert_then
invariant_of-self-in_err-insert_then g c =
    (chunk_stays c.self.inside.cells.items c.reserve.new.self.items c.self.inside.bytes.items _ c.stage.new.bytes.items c.self.inside.short
    c.self.invariant c.reserve.ensures.items c.in_ok-cell.ensures.kept).0

pub returns-in_err-insert_then-clause-err : goal.returns-in_err-insert_then-clause-err
returns-in_err-insert_then-clause-err g c =
    rw (← c.self.view_is)
    (on_err_holds c.from_residual-in_err-insert_then.result (chunk_stays c.self.inside.cells.items c.reserve.new.self.items c.self.inside.bytes.items _ c.stage.new.bytes.items c.self.inside.short
    c.self.invariant c.reserve.ensures.items c.in_ok-cell.ensures.kept).1)

pub overflow_add-self : goal.overflow_add-self
overflow_add-self g c =
    omega (arith, c.short_size.ensures.few, short_bound c.self.inside.cells.items c.self.inside.bytes.items c.self.inside.short c.self.invariant)

pub invariant_of-self-2 : goal.invariant_of-self-2
invariant_of-self-2 g c =
    (cell_put c.self.inside.cells.items c.put_cell.new.cells.items c.self.inside.bytes.items _ c.stage.new.bytes.items c.self.inside.short c.short_size.result c.args.at c.in_ok-cell.cell c.args.value.now
    c.self.invariant c.in_ok-cell.ensures.kept (rw c.reserve.ensures.items at c.put_cell.ensures) c.in_ok-cell.ensures.cell c.in_ok-cell.ensures.behind c.in_ok-cell.ensures.value (rw (← c.self.view_is) at c.requires.room) (rw (← c.self.view_is) at c.requires.at) c.short_size.ensures.count).0

pub returns-clause-ok : goal.returns-clause-ok
returns-clause-ok g c =
    rw (← c.self.view_is)
    (cell_put c.self.inside.cells.items c.put_cell.new.cells.items c.self.inside.bytes.items _ c.stage.new.bytes.items c.self.inside.short c.short_size.result c.args.at c.in_ok-cell.cell c.args.value.now
    c.self.invariant c.in_ok-cell.ensures.kept (rw c.reserve.ensures.items at c.put_cell.ensures) c.in_ok-cell.ensures.cell c.in_ok-cell.ensures.behind c.in_ok-cell.ensures.value (rw (← c.self.view_is) at c.requires.room) (rw (← c.self.view_is) at c.requires.at) c.short_size.ensures.count).1
