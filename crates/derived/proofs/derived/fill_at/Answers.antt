use Rattle.std.proofs.Common.{◌≡◌, ◌<◌, ◌≤◌, length, get_or, refl, sym, ◌∙◌, arith, to_z, of_z, w64}
use Rattle.std.proofs.lemmas.Int.{to_z-of_z}
use Rattle.std.proofs.lemmas.List.{take_all}
use Rattle.mk_value.specs.Data.{cell}
use Rattle.mk_value.specs.Tables.{column_numbers, number_in}
use Rattle.mk_value.proofs.Lending.{filled_more, lent_number}
use Rattle.relations.specs.Rows.{rows_at}
use Rattle.derived.proofs.Fills.{position_number, positions_long}
use Rattle.derived.proofs.derived.fill_at.Goals as goal

pub loop-at-init : goal.loop-at-init
loop-at-init g c = refl

pub loop-at-preserved : goal.loop-at-preserved
loop-at-preserved g c =
    let rows = c.args.base.now.rows in
    let positions = c.args.positions.now in
    let at = c.loop-at.at in
    let into = c.loop-at.into in
    let size : length into ≡ length c.args.into.now = c.loop-at.auto.into in
    let inside : at < length c.args.into.now = c.loop-at-test.true in
    let same = c.requires.as_many in
    let long = positions_long rows positions c.args.col in
    let number : to_z w64 (of_z w64 c.number.result) ≡ number_in (cell rows (get_or positions at 0) c.args.col) =
    to_z-of_z w64 c.number.result (record { sfits = c.number.type_inv }) ∙ c.number.ensures ∙ lent_number c.lend.result _ c.lend.ensures in
    filled_more (column_numbers (rows_at rows positions) c.args.col) into at (to_z w64 (of_z w64 c.number.result)) (omega (arith, size, inside))
    (omega arith) c.loop-at.invariant
    (number ∙ sym (position_number rows positions at c.args.col (omega arith)))

pub returns : goal.returns
returns g c =
    let rows = c.args.base.now.rows in
    let into = c.loop-at.into in
    let size : length into ≡ length c.args.into.now = c.loop-at.auto.into in
    let end = c.loop-at.auto.at-end in
    let full : length into ≤ c.loop-at.at = omega (arith, size, c.loop-at-test.false) in
    let long = positions_long rows c.args.positions.now c.args.col in
    let same = c.requires.as_many in
    sym (take_all c.loop-at.at into full) ∙ c.loop-at.invariant ∙ take_all c.loop-at.at (column_numbers (rows_at rows c.args.positions.now) c.args.col) (omega (arith, c.loop-at-test.false))
