use Rattle.std.proofs.Common.{arith}
use Rattle.bytes_col.proofs.CellLaws.{on_err_holds, cell_added, chunk_stays, short_bound}
use Rattle.bytes_col.proofs.chunk.Chunk.push.Goals as goal

pub invariant_of-self-in_err-insert : goal.invariant_of-self-in_err-insert
invariant_of-self-in_err-insert c =
    (chunk_stays c.self.inside.cells.items c.reserve.new.self.items c.self.inside.bytes.items _ c.stage.new.bytes.items c.self.inside.short
    c.self.invariant c.reserve.ensures.items c.in_ok-cell.ensures.kept).0

pub returns-in_err-insert-clause-err : goal.returns-in_err-insert-clause-err
returns-in_err-insert-clause-err c =
    rw (← c.self.view_is)
    (on_err_holds c.from_residual-in_err-insert.result (chunk_stays c.self.inside.cells.items c.reserve.new.self.items c.self.inside.bytes.items _ c.stage.new.bytes.items c.self.inside.short
    c.self.invariant c.reserve.ensures.items c.in_ok-cell.ensures.kept).1)

pub overflow_add-self : goal.overflow_add-self
overflow_add-self c =
    omega (arith, c.short_size.ensures.few, short_bound c.self.inside.cells.items c.self.inside.bytes.items c.self.inside.short c.self.invariant)

pub invariant_of-self-2 : goal.invariant_of-self-2
invariant_of-self-2 c =
    (cell_added c.self.inside.cells.items c.push_reserved.new.self.items c.self.inside.bytes.items _ c.stage.new.bytes.items c.self.inside.short c.short_size.result c.in_ok-cell.cell c.args.value.now
    c.self.invariant c.in_ok-cell.ensures.kept (rw c.reserve.ensures.items at c.push_reserved.ensures.items) c.in_ok-cell.ensures.cell c.in_ok-cell.ensures.behind c.in_ok-cell.ensures.value (rw (← c.self.view_is) at c.requires.room) c.short_size.ensures.count).0

pub returns-clause-ok : goal.returns-clause-ok
returns-clause-ok c =
    rw (← c.self.view_is)
    (cell_added c.self.inside.cells.items c.push_reserved.new.self.items c.self.inside.bytes.items _ c.stage.new.bytes.items c.self.inside.short c.short_size.result c.in_ok-cell.cell c.args.value.now
    c.self.invariant c.in_ok-cell.ensures.kept (rw c.reserve.ensures.items at c.push_reserved.ensures.items) c.in_ok-cell.ensures.cell c.in_ok-cell.ensures.behind c.in_ok-cell.ensures.value (rw (← c.self.view_is) at c.requires.room) c.short_size.ensures.count).1
