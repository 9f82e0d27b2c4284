use Rattle.std.proofs.Common.{[], ◌<◌, ◌≤◌, List, ◌∙◌, length, get_or, pos, ap, subst, arith}
use Rattle.std.specs.List.{flat_map}
use Rattle.std.proofs.lemmas.List.{take_all}
use Rattle.mk_value.specs.Appending.{Appends}
use Rattle.mk_value.specs.Data.{Datum, cell, integer, rows_weight}
use Rattle.mk_value.specs.Tables.{domain_at}
use Rattle.mk_value.proofs.Appending.{appends_next, fell_short, short_next, writes_along}
use Rattle.mk_value.proofs.Cells.{cell_is_of, row_length}
use Rattle.mk_value.proofs.Walks.{same_default}
use Rattle.tables.specs.Tables.{StoredTable}
use Rattle.stream_codec.specs.Stream.{spelled_rows, spelled_value}
use Rattle.stream_codec.proofs.LentValues.{bytes_lent_short, inner_lighter, rows_lent, text_lent_short, view_lent}
use Rattle.stream_codec.proofs.Written.{rows_short, rows_written}
use Rattle.stream_codec.proofs.saving.+write.Goals as goal

pub write_row-loop-col-preserved : goal.write_row-loop-col-preserved
write_row-loop-col-preserved t c =
    let table = c.args.table.now in
    let row = get_or table.rows c.args.row [] in
    let d = cell table.rows c.args.row c.loop-col.col in
    let long = row_length table.rows table.schema c.args.row c.requires.whole.rows c.requires.row_in in
    let width = ap length c.schema.ensures.value in
    let within : c.loop-col.col < length row = omega (arith, long, width) in
    appends_next spelled_value row c.loop-col.col d c.args.out.now c.loop-col.out c.write_value.new.out within (same_default row c.loop-col.col (integer (pos 0)) d within)
    c.loop-col.invariant c.in_ok-write_value.ensures

pub write_row-returns-in_err-write_value : goal.write_row-returns-in_err-write_value
write_row-returns-in_err-write_value t c =
    let table = c.args.table.now in
    let row = get_or table.rows c.args.row [] in
    let d = cell table.rows c.args.row c.loop-col.col in
    let long = row_length table.rows table.schema c.args.row c.requires.whole.rows c.requires.row_in in
    let width = ap length c.schema.ensures.value in
    let within : c.loop-col.col < length row = omega (arith, long, width) in
    fell_short _ _ _ _ c.from_residual.ensures.0
    (short_next spelled_value row c.loop-col.col d c.args.out.now c.loop-col.out c.write_value.new.out within (same_default row c.loop-col.col (integer (pos 0)) d within)
    c.loop-col.invariant c.in_err-write_value.ensures)

pub write_row-returns : goal.write_row-returns
write_row-returns t c =
    let table = c.args.table.now in
    let row = get_or table.rows c.args.row [] in
    let long = row_length table.rows table.schema c.args.row c.requires.whole.rows c.requires.row_in in
    let width = ap length c.schema.ensures.value in
    let past : length row ≤ c.loop-col.col = omega (arith, long, width) in
    subst (λ (values : List Datum). Appends c.args.out.now (flat_map spelled_value values) c.loop-col.out) (take_all c.loop-col.col row past) c.loop-col.invariant

pub write_rows-returns-in_err-write_row : goal.write_rows-returns-in_err-write_row
write_rows-returns-in_err-write_row t c =
    fell_short _ _ _ _ c.from_residual-in_err-write_row.ensures.0
    (rows_short c.args.table.now.rows c.len.result c.loop-row.row c.args.out.now c.write_count.new.out c.len.ensures.value c.in_ok-write_count.ensures c.loop-row.out c.write_row.new.out (omega arith)
    c.loop-row.invariant c.in_err-write_row.ensures)

pub write_rows-returns : goal.write_rows-returns
write_rows-returns t c =
    rows_written c.args.table.now.rows c.len.result c.loop-row.row c.args.out.now c.write_count.new.out c.len.ensures.value c.in_ok-write_count.ensures c.loop-row.out (omega arith) c.loop-row.invariant

pub write_value-inner-requires-clause-view : goal.write_value-inner-requires-clause-view
write_value-inner-requires-clause-view t c =
    let table = c.args.table.now in
    view_lent c.in-V.field-0 (cell table.rows c.args.row c.args.col) (domain_at table.schema c.args.col) c.in-V.ensures
    (cell_is_of table.rows table.schema c.args.row c.args.col c.requires.whole.rows c.requires.row_in c.requires.col_in)

pub write_value-write_rows-requires : goal.write_value-write_rows-requires
write_value-write_rows-requires t c =
    let table = c.args.table.now in
    let inside = ap (λ (t : StoredTable). rows_weight t.rows) c.inner.ensures.value in
    let lighter = inner_lighter table.rows table.schema c.args.row c.args.col c.requires.whole.rows c.requires.row_in c.requires.col_in in
    (omega (arith, inside, lighter, c.decreases), tt)

pub write_value-write_counted-requires : goal.write_value-write_counted-requires
write_value-write_counted-requires t c =
    let table = c.args.table.now in
    let short = text_lent_short c.in-S.text (cell table.rows c.args.row c.args.col) (domain_at table.schema c.args.col) c.in-S.ensures
    (cell_is_of table.rows table.schema c.args.row c.args.col c.requires.whole.rows c.requires.row_in c.requires.col_in) in
    omega (arith, short)

pub write_value-write_counted-requires-in-B : goal.write_value-write_counted-requires-in-B
write_value-write_counted-requires-in-B t c =
    let table = c.args.table.now in
    let short = bytes_lent_short c.in-B.bytes (cell table.rows c.args.row c.args.col) (domain_at table.schema c.args.col) c.in-B.ensures
    (cell_is_of table.rows table.schema c.args.row c.args.col c.requires.whole.rows c.requires.row_in c.requires.col_in) in
    omega (arith, short)

pub write_value-returns-in-V : goal.write_value-returns-in-V
write_value-returns-in-V t c =
    let inside = ap (λ (t : StoredTable). spelled_rows t.rows) c.inner.ensures.value in
    let spelled = rows_lent c.in-V.field-0 (cell c.args.table.now.rows c.args.row c.args.col) c.in-V.ensures in
    writes_along c.write_rows.result c.args.out.now c.write_rows.new.out (spelled_rows c.inner.result.rows) (spelled_value (cell c.args.table.now.rows c.args.row c.args.col)) (inside ∙ spelled)
    c.write_rows.ensures
