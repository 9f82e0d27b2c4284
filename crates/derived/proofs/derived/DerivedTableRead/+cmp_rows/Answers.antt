use Rattle.std.proofs.Common.{◌≡◌, ◌-◌, length, get_or, ap, subst, ◌∙◌, sym, arith, rules}
use Rattle.mk_value.specs.Data.{Datum, cell as cell_of}
use Rattle.mk_value.specs.Order.{value_cmp}
use Rattle.mk_value.specs.Tables.{IsPlainDomain}
use Rattle.derived.proofs.Besides.{first_at, first_cell, first_domain, second_at, second_cell, second_domain}
use Rattle.derived.proofs.Cells.{column_at, column_cell, column_domain}
use Rattle.derived.proofs.derived.DerivedTableRead.+cmp_rows.Goals as goal

pub cmp_rows-requires-in-Columns : goal.cmp_rows-requires-in-Columns
cmp_rows-requires-in-Columns g t c κs within =
    let view = rw c.in-Columns.is at c.self.view_is in
    let inside = rw c.in-Columns.is at c.self.invariant in
    let first = column_at c.in-Columns.base.value c.args.self.now c.deref-in-Columns.result.now c.in-Columns.columns c.as_slice.result.now c.in-Columns.field-2 _ c.args.a c.args.col view inside.inside c.requires.first_in c.requires.col_in c.deref-in-Columns.ensures c.as_slice.ensures in
    let second = column_at c.in-Columns.base.value c.args.self.now c.deref-in-Columns.result.now c.in-Columns.columns c.as_slice.result.now c.in-Columns.field-2 _ c.args.b c.args.col view inside.inside c.requires.second_in c.requires.col_in c.deref-in-Columns.ensures c.as_slice.ensures in
    let kind = subst IsPlainDomain (column_domain c.in-Columns.base.value c.args.self.now c.deref-in-Columns.result.now c.in-Columns.columns c.as_slice.result.now c.in-Columns.field-2 _ c.args.a c.args.col view inside.inside c.requires.first_in c.requires.col_in c.deref-in-Columns.ensures c.as_slice.ensures) c.requires.plain in
    search rules

pub returns-in-Columns : goal.returns-in-Columns
returns-in-Columns g t c =
    let view = rw c.in-Columns.is at c.self.view_is in
    let inside = rw c.in-Columns.is at c.self.invariant in
    let first = column_cell c.in-Columns.base.value c.args.self.now c.deref-in-Columns.result.now c.in-Columns.columns c.as_slice.result.now c.in-Columns.field-2 _ c.args.a c.args.col view inside.inside c.requires.first_in c.requires.col_in c.deref-in-Columns.ensures c.as_slice.ensures in
    let second = column_cell c.in-Columns.base.value c.args.self.now c.deref-in-Columns.result.now c.in-Columns.columns c.as_slice.result.now c.in-Columns.field-2 _ c.args.b c.args.col view inside.inside c.requires.second_in c.requires.col_in c.deref-in-Columns.ensures c.as_slice.ensures in
    c.cmp_rows-in-Columns.ensures ∙ sym (ap (λ (d : Datum). value_cmp d (cell_of c.args.self.now.rows c.args.b c.args.col)) first ∙ ap (λ (d : Datum). value_cmp (cell_of c.deref-in-Columns.result.now.rows c.args.a (get_or c.as_slice.result.now c.args.col 0)) d) second)

pub cmp_rows-requires-then-col-width : goal.cmp_rows-requires-then-col-width
cmp_rows-requires-then-col-width g t c κs within =
    let view = rw c.in-Beside.is at c.self.view_is in
    let kept = rw c.in-Beside.is at c.self.invariant in
    let width : c.len.result - c.len-in-Beside.result ≡ length c.in-Beside.schema - length c.in-Beside.columns = omega arith in
    let one = first_at c.in-Beside.first.value c.in-Beside.second.value c.args.self.now c.in-Beside.columns c.in-Beside.schema _ view kept.whole kept.inside (c.len.result - c.len-in-Beside.result) width c.deref-then-col-width.result.now c.deref-then-col-width.ensures c.args.a c.args.col c.requires.first_in c.if-col-width.true in
    let two = first_at c.in-Beside.first.value c.in-Beside.second.value c.args.self.now c.in-Beside.columns c.in-Beside.schema _ view kept.whole kept.inside (c.len.result - c.len-in-Beside.result) width c.deref-then-col-width.result.now c.deref-then-col-width.ensures c.args.b c.args.col c.requires.second_in c.if-col-width.true in
    let kind = subst IsPlainDomain (first_domain c.in-Beside.first.value c.in-Beside.second.value c.args.self.now c.in-Beside.columns c.in-Beside.schema _ view kept.whole kept.inside (c.len.result - c.len-in-Beside.result) width c.deref-then-col-width.result.now c.deref-then-col-width.ensures c.args.col c.if-col-width.true) c.requires.plain in
    search rules

pub cmp_rows-requires-else-col-width : goal.cmp_rows-requires-else-col-width
cmp_rows-requires-else-col-width g t c κs within =
    let view = rw c.in-Beside.is at c.self.view_is in
    let kept = rw c.in-Beside.is at c.self.invariant in
    let width : c.len.result - c.len-in-Beside.result ≡ length c.in-Beside.schema - length c.in-Beside.columns = omega arith in
    let one = second_at c.in-Beside.first.value c.in-Beside.second.value c.args.self.now c.in-Beside.columns c.in-Beside.schema _ view kept.whole kept.inside (c.len.result - c.len-in-Beside.result) width c.deref-else-col-width.result.now c.as_slice-else-col-width.result.now c.deref-else-col-width.ensures c.as_slice-else-col-width.ensures c.args.a c.args.col c.requires.first_in c.requires.col_in c.if-col-width.false in
    let two = second_at c.in-Beside.first.value c.in-Beside.second.value c.args.self.now c.in-Beside.columns c.in-Beside.schema _ view kept.whole kept.inside (c.len.result - c.len-in-Beside.result) width c.deref-else-col-width.result.now c.as_slice-else-col-width.result.now c.deref-else-col-width.ensures c.as_slice-else-col-width.ensures c.args.b c.args.col c.requires.second_in c.requires.col_in c.if-col-width.false in
    let kind = subst IsPlainDomain (second_domain c.in-Beside.first.value c.in-Beside.second.value c.args.self.now c.in-Beside.columns c.in-Beside.schema _ view kept.whole kept.inside (c.len.result - c.len-in-Beside.result) width c.deref-else-col-width.result.now c.as_slice-else-col-width.result.now c.deref-else-col-width.ensures c.as_slice-else-col-width.ensures c.args.col c.requires.col_in c.if-col-width.false) c.requires.plain in
    search rules

pub returns-then-col-width : goal.returns-then-col-width
returns-then-col-width g t c =
    let view = rw c.in-Beside.is at c.self.view_is in
    let kept = rw c.in-Beside.is at c.self.invariant in
    let width : c.len.result - c.len-in-Beside.result ≡ length c.in-Beside.schema - length c.in-Beside.columns = omega arith in
    let one = first_cell c.in-Beside.first.value c.in-Beside.second.value c.args.self.now c.in-Beside.columns c.in-Beside.schema _ view kept.whole kept.inside (c.len.result - c.len-in-Beside.result) width c.deref-then-col-width.result.now c.deref-then-col-width.ensures c.args.a c.args.col c.requires.first_in c.if-col-width.true in
    let two = first_cell c.in-Beside.first.value c.in-Beside.second.value c.args.self.now c.in-Beside.columns c.in-Beside.schema _ view kept.whole kept.inside (c.len.result - c.len-in-Beside.result) width c.deref-then-col-width.result.now c.deref-then-col-width.ensures c.args.b c.args.col c.requires.second_in c.if-col-width.true in
    c.cmp_rows-then-col-width.ensures ∙ sym (ap (λ (d : Datum). value_cmp d (cell_of c.args.self.now.rows c.args.b c.args.col)) one ∙ ap (λ (d : Datum). value_cmp (cell_of c.deref-then-col-width.result.now.rows c.args.a c.args.col) d) two)

pub returns-else-col-width : goal.returns-else-col-width
returns-else-col-width g t c =
    let view = rw c.in-Beside.is at c.self.view_is in
    let kept = rw c.in-Beside.is at c.self.invariant in
    let width : c.len.result - c.len-in-Beside.result ≡ length c.in-Beside.schema - length c.in-Beside.columns = omega arith in
    let one = second_cell c.in-Beside.first.value c.in-Beside.second.value c.args.self.now c.in-Beside.columns c.in-Beside.schema _ view kept.whole kept.inside (c.len.result - c.len-in-Beside.result) width c.deref-else-col-width.result.now c.as_slice-else-col-width.result.now c.deref-else-col-width.ensures c.as_slice-else-col-width.ensures c.args.a c.args.col c.requires.first_in c.requires.col_in c.if-col-width.false in
    let two = second_cell c.in-Beside.first.value c.in-Beside.second.value c.args.self.now c.in-Beside.columns c.in-Beside.schema _ view kept.whole kept.inside (c.len.result - c.len-in-Beside.result) width c.deref-else-col-width.result.now c.as_slice-else-col-width.result.now c.deref-else-col-width.ensures c.as_slice-else-col-width.ensures c.args.b c.args.col c.requires.second_in c.requires.col_in c.if-col-width.false in
    c.cmp_rows-else-col-width.ensures ∙ sym (ap (λ (d : Datum). value_cmp d (cell_of c.args.self.now.rows c.args.b c.args.col)) one ∙ ap (λ (d : Datum). value_cmp (cell_of c.deref-else-col-width.result.now.rows c.args.a (get_or c.as_slice-else-col-width.result.now (c.args.col - (c.len.result - c.len-in-Beside.result)) 0)) d) two)
