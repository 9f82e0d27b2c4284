use Rattle.std.proofs.Common.{◌≡◌, ◌-◌, length, ap, subst, ◌∙◌, sym, arith, rules}
use Rattle.mk_value.specs.Data.{Datum}
use Rattle.mk_value.specs.Heading.{Domain}
use Rattle.mk_value.specs.Order.{value_cmp}
use Rattle.mk_value.specs.Tables.{IsComparable}
use Rattle.mk_value.specs.Values.{datum_of}
use Rattle.derived.proofs.Besides.{first_at, first_cell, first_domain, second_at, second_cell, second_domain}
use Rattle.derived.proofs.Cells.{column_at, column_cell, column_domain}
use Rattle.derived.proofs.derived.DerivedTableRead.+cmp_cell.Goals as goal

pub cmp_cell-requires-in-Columns : goal.cmp_cell-requires-in-Columns
cmp_cell-requires-in-Columns g t c κs within =
    let view = rw c.in-Columns.is at c.self.view_is in
    let inside = rw c.in-Columns.is at c.self.invariant in
    let both = column_at c.in-Columns.base.value c.args.self.now c.deref-in-Columns.result.now c.in-Columns.columns c.as_slice-in-Columns.result.now c.in-Columns.field-2 _ c.args.row c.args.col view inside.inside c.requires.row_in c.requires.col_in c.deref-in-Columns.ensures c.as_slice-in-Columns.ensures in
    let kind = subst (λ (e : Domain). IsComparable (datum_of c.args.with.now) e) (column_domain c.in-Columns.base.value c.args.self.now c.deref-in-Columns.result.now c.in-Columns.columns c.as_slice-in-Columns.result.now c.in-Columns.field-2 _ c.args.row c.args.col view inside.inside c.requires.row_in c.requires.col_in c.deref-in-Columns.ensures c.as_slice-in-Columns.ensures) c.requires.comparable in
    search rules

pub returns-in-Columns : goal.returns-in-Columns
returns-in-Columns g t c =
    let view = rw c.in-Columns.is at c.self.view_is in
    let inside = rw c.in-Columns.is at c.self.invariant in
    let same = column_cell c.in-Columns.base.value c.args.self.now c.deref-in-Columns.result.now c.in-Columns.columns c.as_slice-in-Columns.result.now c.in-Columns.field-2 _ c.args.row c.args.col view inside.inside c.requires.row_in c.requires.col_in c.deref-in-Columns.ensures c.as_slice-in-Columns.ensures in
    c.cmp_cell-in-Columns.ensures ∙ ap (λ (d : Datum). value_cmp d (datum_of c.args.with.now)) (sym same)

pub cmp_cell-requires-then-col-width : goal.cmp_cell-requires-then-col-width
cmp_cell-requires-then-col-width g t c κs within =
    let view = rw c.in-Beside.is at c.self.view_is in
    let kept = rw c.in-Beside.is at c.self.invariant in
    let width : c.len.result - c.len-in-Beside.result ≡ length c.in-Beside.schema - length c.in-Beside.columns = omega arith in
    let at = first_at c.in-Beside.first.value c.in-Beside.second.value c.args.self.now c.in-Beside.columns c.in-Beside.schema _ view kept.whole kept.inside (c.len.result - c.len-in-Beside.result) width c.deref-then-col-width.result.now c.deref-then-col-width.ensures c.args.row c.args.col c.requires.row_in c.if-col-width.true in
    let kind = subst (λ (e : Domain). IsComparable (datum_of c.args.with.now) e) (first_domain c.in-Beside.first.value c.in-Beside.second.value c.args.self.now c.in-Beside.columns c.in-Beside.schema _ view kept.whole kept.inside (c.len.result - c.len-in-Beside.result) width c.deref-then-col-width.result.now c.deref-then-col-width.ensures c.args.col c.if-col-width.true) c.requires.comparable in
    search rules

pub cmp_cell-requires-else-col-width : goal.cmp_cell-requires-else-col-width
cmp_cell-requires-else-col-width g t c κs within =
    let view = rw c.in-Beside.is at c.self.view_is in
    let kept = rw c.in-Beside.is at c.self.invariant in
    let width : c.len.result - c.len-in-Beside.result ≡ length c.in-Beside.schema - length c.in-Beside.columns = omega arith in
    let at = second_at c.in-Beside.first.value c.in-Beside.second.value c.args.self.now c.in-Beside.columns c.in-Beside.schema _ view kept.whole kept.inside (c.len.result - c.len-in-Beside.result) width c.deref-else-col-width.result.now c.as_slice-else-col-width.result.now c.deref-else-col-width.ensures c.as_slice-else-col-width.ensures c.args.row c.args.col c.requires.row_in c.requires.col_in c.if-col-width.false in
    let kind = subst (λ (e : Domain). IsComparable (datum_of c.args.with.now) e) (second_domain c.in-Beside.first.value c.in-Beside.second.value c.args.self.now c.in-Beside.columns c.in-Beside.schema _ view kept.whole kept.inside (c.len.result - c.len-in-Beside.result) width c.deref-else-col-width.result.now c.as_slice-else-col-width.result.now c.deref-else-col-width.ensures c.as_slice-else-col-width.ensures c.args.col c.requires.col_in c.if-col-width.false) c.requires.comparable in
    search rules

pub returns-then-col-width : goal.returns-then-col-width
returns-then-col-width g t c =
    let view = rw c.in-Beside.is at c.self.view_is in
    let kept = rw c.in-Beside.is at c.self.invariant in
    let width : c.len.result - c.len-in-Beside.result ≡ length c.in-Beside.schema - length c.in-Beside.columns = omega arith in
    let same = first_cell c.in-Beside.first.value c.in-Beside.second.value c.args.self.now c.in-Beside.columns c.in-Beside.schema _ view kept.whole kept.inside (c.len.result - c.len-in-Beside.result) width c.deref-then-col-width.result.now c.deref-then-col-width.ensures c.args.row c.args.col c.requires.row_in c.if-col-width.true in
    c.cmp_cell-then-col-width.ensures ∙ ap (λ (d : Datum). value_cmp d (datum_of c.args.with.now)) (sym same)

pub returns-else-col-width : goal.returns-else-col-width
returns-else-col-width g t c =
    let view = rw c.in-Beside.is at c.self.view_is in
    let kept = rw c.in-Beside.is at c.self.invariant in
    let width : c.len.result - c.len-in-Beside.result ≡ length c.in-Beside.schema - length c.in-Beside.columns = omega arith in
    let same = second_cell c.in-Beside.first.value c.in-Beside.second.value c.args.self.now c.in-Beside.columns c.in-Beside.schema _ view kept.whole kept.inside (c.len.result - c.len-in-Beside.result) width c.deref-else-col-width.result.now c.as_slice-else-col-width.result.now c.deref-else-col-width.ensures c.as_slice-else-col-width.ensures c.args.row c.args.col c.requires.row_in c.requires.col_in c.if-col-width.false in
    c.cmp_cell-else-col-width.ensures ∙ ap (λ (d : Datum). value_cmp d (datum_of c.args.with.now)) (sym same)
