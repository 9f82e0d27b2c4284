use Rattle.std.proofs.Common.{◌<◌, length, ap, ◌∙◌, arith}
use Rattle.std.proofs.lemmas.List.{length-map}
use Rattle.bytes_col.specs.Chunk.{cell_value}
use Rattle.bytes_col.proofs.CellLaws.{cell_added, short_bound, value_read}
use Rattle.bytes_col.proofs.chunk.Chunk.add.Goals as goal

pub overflow_add-self : goal.overflow_add-self
overflow_add-self c =
    omega (arith, c.short_size.ensures.few, short_bound c.self.inside.cells.items c.self.inside.bytes.items c.self.inside.short c.self.invariant)

pub invariant_of-self-2 : goal.invariant_of-self-2
invariant_of-self-2 c =
    let within : c.args.at < length c.other.inside.cells.items = omega (arith, rw (← c.other.view_is) at c.requires.at, length-map c.other.inside.cells.items (cell_value c.other.inside.bytes.items)) in
    let value = value_read c.other.inside.cells.items c.other.inside.bytes.items c.args.at c.index.result.now within c.index.ensures in
    (cell_added c.self.inside.cells.items c.push_reserved.new.self.items c.self.inside.bytes.items _ c.stage_copy.new.bytes.items c.self.inside.short c.short_size.result c.in_ok-cell.cell _
    c.self.invariant c.in_ok-cell.ensures.kept (rw c.reserve.ensures.items at c.push_reserved.ensures.items) c.in_ok-cell.ensures.cell c.in_ok-cell.ensures.behind
    (c.in_ok-cell.ensures.value ∙ ap (λ b. cell_value b c.index.result.now) c.deref.ensures.value ∙ value)
    (rw (← c.self.view_is) at c.requires.room) (rw (c.value.ensures, ← c.other.view_is) at c.short_size.ensures.count)).0

pub returns : goal.returns
returns c =
    let within : c.args.at < length c.other.inside.cells.items = omega (arith, rw (← c.other.view_is) at c.requires.at, length-map c.other.inside.cells.items (cell_value c.other.inside.bytes.items)) in
    let value = value_read c.other.inside.cells.items c.other.inside.bytes.items c.args.at c.index.result.now within c.index.ensures in
    rw (← c.self.view_is, ← c.other.view_is)
    (cell_added c.self.inside.cells.items c.push_reserved.new.self.items c.self.inside.bytes.items _ c.stage_copy.new.bytes.items c.self.inside.short c.short_size.result c.in_ok-cell.cell _
    c.self.invariant c.in_ok-cell.ensures.kept (rw c.reserve.ensures.items at c.push_reserved.ensures.items) c.in_ok-cell.ensures.cell c.in_ok-cell.ensures.behind
    (c.in_ok-cell.ensures.value ∙ ap (λ b. cell_value b c.index.result.now) c.deref.ensures.value ∙ value)
    (rw (← c.self.view_is) at c.requires.room) (rw (c.value.ensures, ← c.other.view_is) at c.short_size.ensures.count)).1
