use Rattle.std.proofs.Common.{◌≡◌, ◌-◌, length, sym, subst, arith, rules}
use Rattle.std.specs.Prelude.{IfOk}
use Rattle.mk_value.specs.Data.{Datum}
use Rattle.mk_value.specs.Values.{datum_of}
use Rattle.derived.proofs.Besides.{first_at, first_cell, second_at, second_cell}
use Rattle.derived.proofs.derived.DerivedTableRead.+get.Goals as goal

pub get-requires-then-col-width : goal.get-requires-then-col-width
get-requires-then-col-width g t c κs within =
    let view = rw c.in-Beside.is at c.self.view_is in
    let kept = rw c.in-Beside.is at c.self.invariant in
    let width : c.len.result - c.len-in-Beside.result ≡ length c.in-Beside.schema - length c.in-Beside.columns = omega arith in
    let at = first_at c.in-Beside.first.value c.in-Beside.second.value c.args.self.now c.in-Beside.columns c.in-Beside.schema _ view kept.whole kept.inside (c.len.result - c.len-in-Beside.result) width c.deref-then-col-width.result.now c.deref-then-col-width.ensures c.args.row c.args.col c.requires.row_in c.if-col-width.true in
    search rules

pub get-requires-else-col-width : goal.get-requires-else-col-width
get-requires-else-col-width g t c κs within =
    let view = rw c.in-Beside.is at c.self.view_is in
    let kept = rw c.in-Beside.is at c.self.invariant in
    let width : c.len.result - c.len-in-Beside.result ≡ length c.in-Beside.schema - length c.in-Beside.columns = omega arith in
    let at = second_at c.in-Beside.first.value c.in-Beside.second.value c.args.self.now c.in-Beside.columns c.in-Beside.schema _ view kept.whole kept.inside (c.len.result - c.len-in-Beside.result) width c.deref-else-col-width.result.now c.as_slice-else-col-width.result.now c.deref-else-col-width.ensures c.as_slice-else-col-width.ensures c.args.row c.args.col c.requires.row_in c.requires.col_in c.if-col-width.false in
    search rules

pub returns-then-col-width : goal.returns-then-col-width
returns-then-col-width g t c =
    let view = rw c.in-Beside.is at c.self.view_is in
    let kept = rw c.in-Beside.is at c.self.invariant in
    let width : c.len.result - c.len-in-Beside.result ≡ length c.in-Beside.schema - length c.in-Beside.columns = omega arith in
    let same = first_cell c.in-Beside.first.value c.in-Beside.second.value c.args.self.now c.in-Beside.columns c.in-Beside.schema _ view kept.whole kept.inside (c.len.result - c.len-in-Beside.result) width c.deref-then-col-width.result.now c.deref-then-col-width.ensures c.args.row c.args.col c.requires.row_in c.if-col-width.true in
    subst (λ (d : Datum). IfOk c.get-then-col-width.result (λ value. datum_of value ≡ d)) (sym same) c.get-then-col-width.ensures

pub returns-else-col-width : goal.returns-else-col-width
returns-else-col-width g t c =
    let view = rw c.in-Beside.is at c.self.view_is in
    let kept = rw c.in-Beside.is at c.self.invariant in
    let width : c.len.result - c.len-in-Beside.result ≡ length c.in-Beside.schema - length c.in-Beside.columns = omega arith in
    let same = second_cell c.in-Beside.first.value c.in-Beside.second.value c.args.self.now c.in-Beside.columns c.in-Beside.schema _ view kept.whole kept.inside (c.len.result - c.len-in-Beside.result) width c.deref-else-col-width.result.now c.as_slice-else-col-width.result.now c.deref-else-col-width.ensures c.as_slice-else-col-width.ensures c.args.row c.args.col c.requires.row_in c.requires.col_in c.if-col-width.false in
    subst (λ (d : Datum). IfOk c.get-else-col-width.result (λ value. datum_of value ≡ d)) (sym same) c.get-else-col-width.ensures
