use Rattle.std.proofs.Common.{◌≡◌, ◌+◌, ◌-◌, ◌∷◌, [], length, refl, arith}
use Rattle.std.proofs.lemmas.List.{length-map}
use Rattle.bytes_col.specs.Strings.{short_bytes}
use Rattle.bytes_col.specs.Chunk.{cell_value}
use Rattle.bytes_col.proofs.CellLaws.{on_err_holds, cell_set, chunk_stays, set_fits, short_bound}
use Rattle.bytes_col.proofs.chunk.Chunk.put.Goals as goal

pub overflow_sub-short : goal.overflow_sub-short
overflow_sub-short c =
    set_fits c.self.inside.cells.items c.self.inside.bytes.items c.self.inside.short c.args.at c.short_size.result c.value.result.now
    c.self.invariant (rw (← c.tighten.ensures, ← c.self.view_is) at c.requires.at) (rw (← c.self.view_is) at c.value.ensures) c.short_size.ensures.count

pub overflow_add-short : goal.overflow_add-short
overflow_add-short c =
    omega (arith, c.short_size-2.ensures.few, short_bound c.self.inside.cells.items c.self.inside.bytes.items c.self.inside.short c.self.invariant)

pub invariant_of-self-in_err-set : goal.invariant_of-self-in_err-set
invariant_of-self-in_err-set c =
    (chunk_stays c.self.inside.cells.items c.self.inside.cells.items c.self.inside.bytes.items _ c.stage.new.bytes.items c.self.inside.short
    c.self.invariant refl c.in_ok-cell.ensures.kept).0

pub returns-in_err-set-clause-err : goal.returns-in_err-set-clause-err
returns-in_err-set-clause-err c =
    rw (← c.tighten.ensures, ← c.self.view_is)
    (on_err_holds c.from_residual-in_err-set.result
    (chunk_stays c.self.inside.cells.items c.self.inside.cells.items c.self.inside.bytes.items _ c.stage.new.bytes.items c.self.inside.short
    c.self.invariant refl c.in_ok-cell.ensures.kept).1)

pub invariant_of-self-2 : goal.invariant_of-self-2
invariant_of-self-2 c =
    let l = rw (← c.tighten.ensures, ← c.self.view_is) at c.requires.at in
    let was = rw (← c.self.view_is) at c.value.ensures in
    let small = set_fits c.self.inside.cells.items c.self.inside.bytes.items c.self.inside.short c.args.at c.short_size.result c.value.result.now c.self.invariant l was c.short_size.ensures.count in
    (cell_set c.self.inside.cells.items c.self.inside.bytes.items _ c.stage.new.bytes.items c.self.inside.short _ c.args.at c.in_ok-cell.cell c.args.value.now c.value.result.now
    c.self.invariant c.in_ok-cell.ensures.kept c.in_ok-cell.ensures.cell c.in_ok-cell.ensures.behind c.in_ok-cell.ensures.value (omega (arith, l, length-map c.self.inside.cells.items (cell_value c.self.inside.bytes.items))) was (omega (arith, c.short_size.ensures.count, c.short_size-2.ensures.count, small))).0

pub returns-clause-ok : goal.returns-clause-ok
returns-clause-ok c =
    let l = rw (← c.tighten.ensures, ← c.self.view_is) at c.requires.at in
    let was = rw (← c.self.view_is) at c.value.ensures in
    let small = set_fits c.self.inside.cells.items c.self.inside.bytes.items c.self.inside.short c.args.at c.short_size.result c.value.result.now c.self.invariant l was c.short_size.ensures.count in
    let sum : c.self.inside.short - c.short_size.result + c.short_size-2.result + length (short_bytes (c.value.result.now ∷ [])) ≡ c.self.inside.short + length (short_bytes (c.args.value.now ∷ [])) = omega (arith, c.short_size.ensures.count, c.short_size-2.ensures.count, small) in
    rw (← c.tighten.ensures, ← c.self.view_is)
    (cell_set c.self.inside.cells.items c.self.inside.bytes.items _ c.stage.new.bytes.items c.self.inside.short _ c.args.at c.in_ok-cell.cell c.args.value.now c.value.result.now
    c.self.invariant c.in_ok-cell.ensures.kept c.in_ok-cell.ensures.cell c.in_ok-cell.ensures.behind c.in_ok-cell.ensures.value (omega (arith, l, length-map c.self.inside.cells.items (cell_value c.self.inside.bytes.items))) was sum).1
