use Rattle.std.proofs.Common.{◌∙◌, [], ◌∷◌, length, get_or, ap, sym}
use Rattle.bytes_col.specs.Strings.{short_bytes}
use Rattle.bytes_col.proofs.CellLaws.{set_fits}
use Rattle.bytes_col.proofs.Inserted.{cell_taken}
use Rattle.bytes_col.proofs.chunk.Chunk.remove_then.Goals as goal

pub overflow_sub-short : goal.overflow_sub-short
overflow_sub-short g c =
    set_fits c.self.inside.cells.items c.self.inside.bytes.items c.self.inside.short c.args.at c.short_size.result c.value.result.now c.self.invariant
    (rw (← c.self.view_is) at c.requires.at) (c.value.ensures ∙ ap (λ xs. get_or xs c.args.at []) (sym c.self.view_is)) c.short_size.ensures.count

pub invariant_of-self : goal.invariant_of-self
invariant_of-self g c =
    (cell_taken c.self.inside.cells.items c.take_cell.new.cells.items c.self.inside.bytes.items c.self.inside.short c.short_size.result c.args.at c.self.invariant (rw (← c.self.view_is) at c.requires.at) c.take_cell.ensures
    (c.short_size.ensures.count ∙ ap (λ v. length (short_bytes (v ∷ []))) (c.value.ensures ∙ ap (λ xs. get_or xs c.args.at []) (sym c.self.view_is)))).0

pub returns-clause-ok : goal.returns-clause-ok
returns-clause-ok g c =
    rw (← c.self.view_is)
    (cell_taken c.self.inside.cells.items c.take_cell.new.cells.items c.self.inside.bytes.items c.self.inside.short c.short_size.result c.args.at c.self.invariant (rw (← c.self.view_is) at c.requires.at) c.take_cell.ensures
    (c.short_size.ensures.count ∙ ap (λ v. length (short_bytes (v ∷ []))) (c.value.ensures ∙ ap (λ xs. get_or xs c.args.at []) (sym c.self.view_is)))).1
