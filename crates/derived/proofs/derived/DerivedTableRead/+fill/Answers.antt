use Rattle.std.proofs.Common.{◌≡◌, ◌+◌, ◌-◌, length, take, drop, ap, subst, sym, ◌∙◌, arith, rules}
use Rattle.mk_value.specs.Tables.{AreNumbers, column_numbers}
use Rattle.relations.specs.Rows.{rows_at}
use Rattle.derived.specs.Layers.{Layered}
use Rattle.derived.proofs.Besides.{first_domain, first_numbers, first_place, second_domain, second_numbers, second_place}
use Rattle.derived.proofs.Cells.{column_fills, column_kind, column_place}
use Rattle.derived.proofs.Fills.{across_numbers, behind_numbers, part_numbers}
use Rattle.derived.proofs.derived.DerivedTableRead.+fill.Goals as goal

pub fill-requires-in-Columns : goal.fill-requires-in-Columns
fill-requires-in-Columns g t c κs within =
    let view = rw c.in-Columns.is at c.self.view_is in
    let inside = rw c.in-Columns.is at c.self.invariant in
    let kind = subst AreNumbers (column_kind c.in-Columns.base.value c.args.self.now c.deref-in-Columns.result.now c.in-Columns.columns c.as_slice-in-Columns.result.now c.in-Columns.field-2 _ c.args.col view inside.inside c.requires.col_in c.deref-in-Columns.ensures c.as_slice-in-Columns.ensures) c.requires.numbers in
    let place = column_place c.in-Columns.base.value c.args.self.now c.deref-in-Columns.result.now c.in-Columns.columns c.as_slice-in-Columns.result.now c.in-Columns.field-2 _ c.args.col view inside.inside c.requires.col_in c.deref-in-Columns.ensures c.as_slice-in-Columns.ensures in
    search rules

pub fill-requires-then-col-width : goal.fill-requires-then-col-width
fill-requires-then-col-width g t c κs within =
    let view = rw c.in-Beside.is at c.self.view_is in
    let kept = rw c.in-Beside.is at c.self.invariant in
    let width : c.len.result - c.len-in-Beside.result ≡ length c.in-Beside.schema - length c.in-Beside.columns = omega arith in
    let kind = subst AreNumbers (first_domain c.in-Beside.first.value c.in-Beside.second.value c.args.self.now c.in-Beside.columns c.in-Beside.schema _ view kept.whole kept.inside (c.len.result - c.len-in-Beside.result) width c.deref-then-col-width.result.now c.deref-then-col-width.ensures c.args.col c.if-col-width.true) c.requires.numbers in
    let place = first_place c.in-Beside.first.value c.in-Beside.second.value c.args.self.now c.in-Beside.columns c.in-Beside.schema _ view kept.whole kept.inside (c.len.result - c.len-in-Beside.result) width c.deref-then-col-width.result.now c.deref-then-col-width.ensures c.args.col c.if-col-width.true in
    search rules

pub fill-requires-else-col-width : goal.fill-requires-else-col-width
fill-requires-else-col-width g t c κs within =
    let view = rw c.in-Beside.is at c.self.view_is in
    let kept = rw c.in-Beside.is at c.self.invariant in
    let width : c.len.result - c.len-in-Beside.result ≡ length c.in-Beside.schema - length c.in-Beside.columns = omega arith in
    let kind = subst AreNumbers (second_domain c.in-Beside.first.value c.in-Beside.second.value c.args.self.now c.in-Beside.columns c.in-Beside.schema _ view kept.whole kept.inside (c.len.result - c.len-in-Beside.result) width c.deref-else-col-width.result.now c.as_slice-else-col-width.result.now c.deref-else-col-width.ensures c.as_slice-else-col-width.ensures c.args.col c.requires.col_in c.if-col-width.false) c.requires.numbers in
    let place = second_place c.in-Beside.first.value c.in-Beside.second.value c.args.self.now c.in-Beside.columns c.in-Beside.schema _ view kept.whole kept.inside (c.len.result - c.len-in-Beside.result) width c.deref-else-col-width.result.now c.as_slice-else-col-width.result.now c.deref-else-col-width.ensures c.as_slice-else-col-width.ensures c.args.col c.requires.col_in c.if-col-width.false in
    search rules

pub returns-in-Rows : goal.returns-in-Rows
returns-in-Rows g t c =
    let view = rw c.in-Rows.is at c.self.view_is in
    let many : c.args.from + length c.args.into.now - c.args.from ≡ length c.args.into.now = omega arith in
    c.fill_at.ensures
    ∙ ap (λ n. column_numbers (rows_at c.deref.result.now.rows (take n (drop c.args.from c.as_slice.result.now))) c.args.col) many
    ∙ part_numbers c.deref.result.now.rows c.as_slice.result.now (length c.args.into.now) c.args.from c.args.col
    ∙ ap (λ (d : Layered). take (length c.args.into.now) (drop c.args.from (column_numbers (rows_at d.rows c.as_slice.result.now) c.args.col))) c.deref.ensures
    ∙ ap (λ ps. take (length c.args.into.now) (drop c.args.from (column_numbers (rows_at c.in-Rows.base.value.rows ps) c.args.col))) c.as_slice.ensures
    ∙ ap (λ (d : Layered). take (length c.args.into.now) (drop c.args.from (column_numbers d.rows c.args.col))) view

pub returns-in-Columns : goal.returns-in-Columns
returns-in-Columns g t c =
    let view = rw c.in-Columns.is at c.self.view_is in
    let inside = rw c.in-Columns.is at c.self.invariant in
    c.fill-in-Columns.ensures ∙ ap (λ ns. take (length c.args.into.now) (drop c.args.from ns)) (sym (column_fills c.in-Columns.base.value c.args.self.now c.deref-in-Columns.result.now c.in-Columns.columns c.as_slice-in-Columns.result.now c.in-Columns.field-2 _ c.args.col view inside.inside c.requires.col_in c.deref-in-Columns.ensures c.as_slice-in-Columns.ensures))

pub returns-then-size-from : goal.returns-then-size-from
returns-then-size-from g t c =
    let view = rw c.in-Stacked.is at c.self.view_is in
    let inside = rw c.in-Stacked.is at c.self.invariant in
    c.fill-then-size-from.ensures
    ∙ ap (λ (d : Layered). take (length c.args.into.now) (drop (c.args.from - c.in-Stacked.size) (column_numbers d.rows c.args.col))) c.deref-then-size-from.ensures
    ∙ behind_numbers c.in-Stacked.first.value.rows c.in-Stacked.second.value.rows c.in-Stacked.size (length c.args.into.now) c.args.from c.args.col inside.inside.above c.if-size-from.true
    ∙ ap (λ (d : Layered). take (length c.args.into.now) (drop c.args.from (column_numbers d.rows c.args.col))) view

pub returns-else-size-from : goal.returns-else-size-from
returns-else-size-from g t c =
    let view = rw c.in-Stacked.is at c.self.view_is in
    let inside = rw c.in-Stacked.is at c.self.invariant in
    let front : c.fill-else-size-from.new.into ≡ take (length c.split_at_mut-firsts.result.0.now) (drop c.args.from (column_numbers c.in-Stacked.first.value.rows c.args.col)) =
    c.fill-else-size-from.ensures ∙ ap (λ (d : Layered). take (length c.split_at_mut-firsts.result.0.now) (drop c.args.from (column_numbers d.rows c.args.col))) c.deref-else-size-from.ensures in
    let back : c.fill-else-size-from-2.new.into ≡ take (length c.split_at_mut-firsts.result.1.now) (drop 0 (column_numbers c.in-Stacked.second.value.rows c.args.col)) =
    c.fill-else-size-from-2.ensures ∙ ap (λ (d : Layered). take (length c.split_at_mut-firsts.result.1.now) (drop 0 (column_numbers d.rows c.args.col))) c.deref-else-size-from-2.ensures in
    let below = c.if-size-from.false in
    across_numbers c.in-Stacked.first.value.rows c.in-Stacked.second.value.rows c.in-Stacked.size (length c.args.into.now) c.args.from c.args.col (length c.split_at_mut-firsts.result.0.now)
    (length c.split_at_mut-firsts.result.1.now) c.fill-else-size-from.new.into c.fill-else-size-from-2.new.into inside.inside.above (omega arith) c.split_at_mut-firsts.ensures.front_len c.split_at_mut-firsts.ensures.back_len front back
    ∙ ap (λ (d : Layered). take (length c.args.into.now) (drop c.args.from (column_numbers d.rows c.args.col))) view

pub returns-then-col-width : goal.returns-then-col-width
returns-then-col-width g t c =
    let view = rw c.in-Beside.is at c.self.view_is in
    let kept = rw c.in-Beside.is at c.self.invariant in
    let width : c.len.result - c.len-in-Beside.result ≡ length c.in-Beside.schema - length c.in-Beside.columns = omega arith in
    c.fill-then-col-width.ensures ∙ ap (λ ns. take (length c.args.into.now) (drop c.args.from ns)) (sym (first_numbers c.in-Beside.first.value c.in-Beside.second.value c.args.self.now c.in-Beside.columns c.in-Beside.schema _ view kept.whole kept.inside (c.len.result - c.len-in-Beside.result) width c.deref-then-col-width.result.now c.deref-then-col-width.ensures c.args.col c.if-col-width.true))

pub returns-else-col-width : goal.returns-else-col-width
returns-else-col-width g t c =
    let view = rw c.in-Beside.is at c.self.view_is in
    let kept = rw c.in-Beside.is at c.self.invariant in
    let width : c.len.result - c.len-in-Beside.result ≡ length c.in-Beside.schema - length c.in-Beside.columns = omega arith in
    c.fill-else-col-width.ensures ∙ ap (λ ns. take (length c.args.into.now) (drop c.args.from ns)) (sym (second_numbers c.in-Beside.first.value c.in-Beside.second.value c.args.self.now c.in-Beside.columns c.in-Beside.schema _ view kept.whole kept.inside (c.len.result - c.len-in-Beside.result) width c.deref-else-col-width.result.now c.as_slice-else-col-width.result.now c.deref-else-col-width.ensures c.as_slice-else-col-width.ensures c.args.col c.requires.col_in c.if-col-width.false))
