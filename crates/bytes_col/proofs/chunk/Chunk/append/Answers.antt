use Rattle.std.proofs.Common.{arith}
use Rattle.bytes_col.proofs.CellLaws.{cell_added, short_bound}
use Rattle.bytes_col.proofs.chunk.Chunk.append.Goals as goal

pub overflow_add-self : goal.overflow_add-self
overflow_add-self c =
    omega (arith, c.short_size.ensures.few, short_bound c.self.inside.cells.items c.self.inside.bytes.items c.self.inside.short c.self.invariant)

pub invariant_of-self-2 : goal.invariant_of-self-2
invariant_of-self-2 c =
    (cell_added c.self.inside.cells.items c.push_reserved.new.self.items c.self.inside.bytes.items _ c.stage.new.bytes.items c.self.inside.short c.short_size.result c.in_ok-cell.cell c.args.value.now
    c.self.invariant c.in_ok-cell.ensures.kept (rw c.reserve.ensures.items at c.push_reserved.ensures.items) c.in_ok-cell.ensures.cell c.in_ok-cell.ensures.behind c.in_ok-cell.ensures.value (rw (← c.self.view_is) at c.requires) c.short_size.ensures.count).0

pub returns-clause-ok : goal.returns-clause-ok
returns-clause-ok c =
    rw (← c.self.view_is)
    (cell_added c.self.inside.cells.items c.push_reserved.new.self.items c.self.inside.bytes.items _ c.stage.new.bytes.items c.self.inside.short c.short_size.result c.in_ok-cell.cell c.args.value.now
    c.self.invariant c.in_ok-cell.ensures.kept (rw c.reserve.ensures.items at c.push_reserved.ensures.items) c.in_ok-cell.ensures.cell c.in_ok-cell.ensures.behind c.in_ok-cell.ensures.value (rw (← c.self.view_is) at c.requires) c.short_size.ensures.count).1
