use Rattle.std.proofs.Common.{◌≡◌, ◌+◌, ◌∙◌, ◌<◌, ◌^◌, ℕ, length, sym, ap, subst, arith}
use Rattle.std.specs.Result.{OkIff}
use Rattle.mk_value.specs.Data.{cell, rows_weight}
use Rattle.mk_value.specs.Kinds.{domain_of}
use Rattle.mk_value.specs.Tables.{domain_at}
use Rattle.mk_value.proofs.Cells.{cell_is_of}
use Rattle.tables.specs.Tables.{StoredTable}
use Rattle.stream_codec.specs.Stream.{spelled_rows}
use Rattle.stream_codec.proofs.ColumnLengths.{column_all, column_more, column_within, columns_within, front_length, front_more, front_none, integers_counted, longs_counted, rows_counted, too_long}
use Rattle.stream_codec.proofs.LentValues.{inner_lighter, rows_lent, view_lent}
use Rattle.stream_codec.proofs.lengths.+length.Goals as goal

pub column_length-returns-in-I : goal.column_length-returns-in-I
column_length-returns-in-I t c =
    let counted = integers_counted c.args.table.now c.args.col c.requires.whole c.requires.col_in (ap (λ s. domain_at s c.args.col) (sym c.schema.ensures.value) ∙ c.kind_at.ensures ∙ ap domain_of c.in-I.is) in
    let few = c.requires.whole.rows.few in
    let len = c.len.ensures.value in
    (omega (arith, counted, few), omega (arith, counted, len))

pub column_length-returns-in-L : goal.column_length-returns-in-L
column_length-returns-in-L t c =
    let counted = longs_counted c.args.table.now c.args.col c.requires.whole c.requires.col_in (ap (λ s. domain_at s c.args.col) (sym c.schema.ensures.value) ∙ c.kind_at.ensures ∙ ap domain_of c.in-L.is) in
    let few = c.requires.whole.rows.few in
    let len = c.len-in-L.ensures.value in
    (omega (arith, counted, few), omega (arith, counted, len))

pub rows_length-loop-col-init : goal.rows_length-loop-col-init
rows_length-loop-col-init t c = let none = front_none c.args.table.now.rows in (omega (arith, none), omega arith)

pub rows_length-loop-col-preserved : goal.rows_length-loop-col-preserved
rows_length-loop-col-preserved t c =
    let table = c.args.table.now in
    let width = ap length c.schema.ensures.value in
    let more = front_more table.rows table.schema c.loop-col.col c.len-rows.ensures.whole.rows.whole (omega (arith, width)) in
    let so_far = c.loop-col.invariant.0 in
    let column = c.in_ok-column.ensures.1 in
    let sum = c.in_ok-len.ensures.1 in
    let fits = c.in_ok-len.ensures.0 in
    (omega (arith, more, so_far, column, sum), omega (arith, sum, fits))

pub rows_length-returns-in_err-column : goal.rows_length-returns-in_err-column
rows_length-returns-in_err-column t c =
    let table = c.args.table.now in
    let width = ap length c.schema.ensures.value in
    let within = columns_within table c.loop-col.col c.len-rows.ensures.whole (omega (arith, width)) in
    too_long _ _ _ c.from_residual.ensures.0 (λ small. c.in_err-column.ensures (omega (arith, small, within)))

pub rows_length-returns-in_err-len : goal.rows_length-returns-in_err-len
rows_length-returns-in_err-len t c =
    let table = c.args.table.now in
    let width = ap length c.schema.ensures.value in
    let within = columns_within table c.loop-col.col c.len-rows.ensures.whole (omega (arith, width)) in
    let so_far = c.loop-col.invariant.0 in
    let column = c.in_ok-column.ensures.1 in
    too_long _ _ _ c.from_residual-in_err-len.ensures.0 (λ small. c.in_err-len.ensures (omega (arith, small, within, so_far, column)))

pub rows_length-returns : goal.rows_length-returns
rows_length-returns t c =
    let table = c.args.table.now in
    let width = ap length c.schema.ensures.value in
    let all : c.loop-col.col ≡ length table.schema = omega (arith, width) in
    let counted = c.loop-col.invariant.0 ∙ ap (λ (k : ℕ). 4 + front_length table.rows k) all ∙ rows_counted table c.len-rows.ensures.whole in
    let fits = c.loop-col.invariant.1 in
    (omega (arith, counted, fits), counted)

pub value_length-inner-requires-clause-view : goal.value_length-inner-requires-clause-view
value_length-inner-requires-clause-view t c =
    let table = c.args.table.now in
    view_lent c.in-V.field-0 (cell table.rows c.args.row c.args.col) (domain_at table.schema c.args.col) c.in-V.ensures
    (cell_is_of table.rows table.schema c.args.row c.args.col c.requires.whole.rows c.requires.row_in c.requires.col_in)

pub value_length-rows_length-requires : goal.value_length-rows_length-requires
value_length-rows_length-requires t c =
    let table = c.args.table.now in
    let inside = ap (λ (t : StoredTable). rows_weight t.rows) c.inner.ensures.value in
    let lighter = inner_lighter table.rows table.schema c.args.row c.args.col c.requires.whole.rows c.requires.row_in c.requires.col_in in
    (omega (arith, inside, lighter, c.decreases), tt)

pub value_length-returns-in-V : goal.value_length-returns-in-V
value_length-returns-in-V t c =
    let inside = ap (λ (t : StoredTable). length (spelled_rows t.rows)) c.inner.ensures.value in
    let spelled = ap length (rows_lent c.in-V.field-0 (cell c.args.table.now.rows c.args.row c.args.col) c.in-V.ensures) in
    subst (λ (n : ℕ). OkIff c.rows_length.result (n < 2 ^ 64) n) (inside ∙ spelled) c.rows_length.ensures

pub values_length-loop-row-preserved : goal.values_length-loop-row-preserved
values_length-loop-row-preserved t c =
    let more = column_more c.args.table.now.rows c.args.col c.loop-row.row (omega arith) in
    let so_far = c.loop-row.invariant.0 in
    let value = c.in_ok-value.ensures.1 in
    let sum = c.in_ok-len.ensures.1 in
    let fits = c.in_ok-len.ensures.0 in
    (omega (arith, more, so_far, value, sum), omega (arith, sum, fits))

pub values_length-returns-in_err-value : goal.values_length-returns-in_err-value
values_length-returns-in_err-value t c =
    let within = column_within c.args.table.now.rows c.args.col c.loop-row.row (omega arith) in
    too_long _ _ _ c.from_residual.ensures.0 (λ small. c.in_err-value.ensures (omega (arith, small, within)))

pub values_length-returns-in_err-len : goal.values_length-returns-in_err-len
values_length-returns-in_err-len t c =
    let within = column_within c.args.table.now.rows c.args.col c.loop-row.row (omega arith) in
    let so_far = c.loop-row.invariant.0 in
    let value = c.in_ok-value.ensures.1 in
    too_long _ _ _ c.from_residual-in_err-len.ensures.0 (λ small. c.in_err-len.ensures (omega (arith, small, within, so_far, value)))

pub values_length-returns : goal.values_length-returns
values_length-returns t c =
    let all = c.loop-row.invariant.0 ∙ column_all c.args.table.now.rows c.args.col c.loop-row.row (omega arith) in
    let fits = c.loop-row.invariant.1 in
    (omega (arith, all, fits), all)
