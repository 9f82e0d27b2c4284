use Rattle.std.proofs.Common.{◌≡◌, ◌∙◌, ◌-◌, [], ◌∷◌, length, get_or, take, ap, sym, arith}
use Rattle.std.proofs.lemmas.List.{length-map}
use Rattle.bytes_col.specs.Chunk.{cell_value, cell_values}
use Rattle.bytes_col.specs.Strings.{short_bytes}
use Rattle.bytes_col.proofs.CellLaws.{set_fits}
use Rattle.bytes_col.proofs.Grown.{cell_removed}
use Rattle.bytes_col.proofs.chunk.Chunk.pop.Goals as goal

pub overflow_sub-short : goal.overflow_sub-short
overflow_sub-short c =
    let k = c.len-last.result - 1 in
    set_fits c.self.inside.cells.items c.self.inside.bytes.items c.self.inside.short k c.short_size.result c.value.result.now c.self.invariant
    (omega (arith, c.len-last.ensures.count, c.requires, ap length c.self.view_is))
    (c.value.ensures ∙ ap (λ xs. get_or xs k []) (sym c.self.view_is)) c.short_size.ensures.count

pub invariant_of-self : goal.invariant_of-self
invariant_of-self c =
    let cells = c.self.inside.cells.items in
    let bytes = c.self.inside.bytes.items in
    let long : c.len-last.result ≡ length cells = c.len-last.ensures.count ∙ ap length (sym c.self.view_is) ∙ length-map cells (cell_value bytes) in
    let counted : c.short_size.result ≡ length (short_bytes (get_or (cell_values bytes cells) (length cells - 1) [] ∷ [])) =
    c.short_size.ensures.count ∙ ap (λ v. length (short_bytes (v ∷ []))) (c.value.ensures ∙ ap (λ xs. get_or xs (c.len-last.result - 1) []) (sym c.self.view_is) ∙ ap (λ n. get_or (cell_values bytes cells) (n - 1) []) long) in
    (cell_removed cells c.truncate.new.self.items bytes c.self.inside.short c.short_size.result c.self.invariant (omega (arith, long, c.len-last.ensures.count, c.requires))
    (c.truncate.ensures.items ∙ ap (λ n. take (n - 1) cells) long) counted).0

pub returns : goal.returns
returns c =
    let cells = c.self.inside.cells.items in
    let bytes = c.self.inside.bytes.items in
    let long : c.len-last.result ≡ length cells = c.len-last.ensures.count ∙ ap length (sym c.self.view_is) ∙ length-map cells (cell_value bytes) in
    let counted : c.short_size.result ≡ length (short_bytes (get_or (cell_values bytes cells) (length cells - 1) [] ∷ [])) =
    c.short_size.ensures.count ∙ ap (λ v. length (short_bytes (v ∷ []))) (c.value.ensures ∙ ap (λ xs. get_or xs (c.len-last.result - 1) []) (sym c.self.view_is) ∙ ap (λ n. get_or (cell_values bytes cells) (n - 1) []) long) in
    rw (← c.self.view_is)
    (cell_removed cells c.truncate.new.self.items bytes c.self.inside.short c.short_size.result c.self.invariant (omega (arith, long, c.len-last.ensures.count, c.requires))
    (c.truncate.ensures.items ∙ ap (λ n. take (n - 1) cells) long) counted).1
