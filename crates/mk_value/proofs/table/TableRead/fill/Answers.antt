use Rattle.std.proofs.Common.{◌≡◌, ◌∙◌, sym, ap, refl, ◌+◌, ◌<◌, ◌≤◌, length, take, drop, arith, to_z, of_z, w64}
use Rattle.std.proofs.lemmas.Int.{to_z-of_z}
use Rattle.std.proofs.lemmas.List.{take_all}
use Rattle.mk_value.specs.Data.{cell}
use Rattle.mk_value.specs.Tables.{column_numbers, number_in}
use Rattle.mk_value.proofs.Lending.{column_long, column_number, filled_more, lent_number}
use Rattle.mk_value.proofs.table.TableRead.fill.Goals as goal

pub loop-at-init : goal.loop-at-init
loop-at-init g c = refl

pub loop-at-preserved : goal.loop-at-preserved
loop-at-preserved g c =
    let rows = g.Self.TableRead.rows c.args.self.now in
    let at = c.loop-at.at in
    let into = c.loop-at.into in
    let size : length into ≡ length c.args.into.now = c.loop-at.auto.into in
    let inside : at < length c.args.into.now = c.loop-at-test.true in
    let row : c.args.from + at < length rows = omega (arith, c.requires.within, inside) in
    let number : to_z w64 (of_z w64 c.number.result) ≡ number_in (cell rows (c.args.from + at) c.args.col) =
    to_z-of_z w64 c.number.result (record { sfits = c.number.type_inv }) ∙ c.number.ensures ∙ lent_number c.lend.result _ c.lend.ensures in
    filled_more (drop c.args.from (column_numbers rows c.args.col)) into at (to_z w64 (of_z w64 c.number.result)) (omega (arith, size, inside))
    (column_long rows c.args.from at c.args.col row) c.loop-at.invariant
    (number ∙ sym (column_number rows c.args.from at c.args.col row))

pub returns : goal.returns
returns g c =
    let rows = g.Self.TableRead.rows c.args.self.now in
    let into = c.loop-at.into in
    let size : length into ≡ length c.args.into.now = c.loop-at.auto.into in
    let full : length into ≤ c.loop-at.at = omega (arith, size, c.loop-at-test.false) in
    let ends : c.loop-at.at ≡ length c.args.into.now = omega (arith, c.loop-at.auto.at-end, c.loop-at-test.false) in
    sym (take_all c.loop-at.at into full) ∙ c.loop-at.invariant
    ∙ ap (λ n. take n (drop c.args.from (column_numbers rows c.args.col))) ends
