use Rattle.std.proofs.Common.{◌∙◌, ◌<◌, [], length, pos, ap, sym, subst, arith}
use Rattle.mk_value.specs.Heading.{Domain, Attribute, attributes_weight, domain_weight, heading_of}
use Rattle.mk_value.specs.Data.{integer, IsOf, AreRowsOf}
use Rattle.mk_value.specs.Kinds.{domain_of}
use Rattle.mk_value.specs.Values.{datum_of}
use Rattle.mk_value.proofs.Headings.{attributes_weight-at, heading_weight-heading_of}
use Rattle.mk_value.proofs.Relations.{rows_of-relation_of, IsOf-relation}
use Rattle.tables.specs.Build.{HasColumn, AreCells}
use Rattle.tables.specs.Columns.{IsColumnWith, AreColumnsOf, table_of_columns}
use Rattle.tables.specs.Homes.{column_of, rows_in, empty_home}
use Rattle.tables.specs.Stored.{stored_of}
use Rattle.tables.specs.Tables.{table_without_homes}
use Rattle.tables.proofs.Cells.{place_in_row, value_read, column_more, column_read, cells_of_rows, IfOk-then}
use Rattle.tables.proofs.ColumnWith.{cells_fit, integers_made, longs_made, texts_made, bytes_made, views_made}
use Rattle.tables.proofs.Reading.{domain_read, length-column_of}
use Rattle.tables.proofs.Rebuilding.{IsRebuilt-empty, column_empty, table_rebuilt, columns_rebuilt, no_first_columns, first_columns_more, all_columns}
use Rattle.tables.proofs.build.+build.Goals as goal

pub col_of_rows-views_of_rows-requires : goal.col_of_rows-views_of_rows-requires
col_of_rows-views_of_rows-requires t c =
    let kind = ap (λ k. domain_weight (domain_of k)) c.in-V.is in
    (omega (arith, kind, heading_weight-heading_of c.in-V.schema), rw c.in-V.is at c.requires)

pub col_of_rows-returns-in_ok-views_of_rows-in-V : goal.col_of_rows-returns-in_ok-views_of_rows-in-V
col_of_rows-returns-in_ok-views_of_rows-in-V t c =
    rw c.in-V.is (views_made c.args.rows.now c.args.at c.in-V.schema c.in_ok-views_of_rows-in-V.field-0 (rw c.in-V.is at c.requires) c.in_ok-views_of_rows-in-V.ensures)

pub col_of_rows-returns-in_ok-blobs_of_rows-in-S : goal.col_of_rows-returns-in_ok-blobs_of_rows-in-S
col_of_rows-returns-in_ok-blobs_of_rows-in-S t c =
    rw c.in-S.is (texts_made c.args.rows.now c.args.at c.in_ok-blobs_of_rows-in-S.field-0 (rw c.in-S.is at c.requires) c.in_ok-blobs_of_rows-in-S.ensures.values c.in_ok-blobs_of_rows-in-S.ensures.home)

pub col_of_rows-returns-in_ok-blobs_of_rows-in-B : goal.col_of_rows-returns-in_ok-blobs_of_rows-in-B
col_of_rows-returns-in_ok-blobs_of_rows-in-B t c =
    rw c.in-B.is (bytes_made c.args.rows.now c.args.at c.in_ok-blobs_of_rows-in-B.field-0 (rw c.in-B.is at c.requires) c.in_ok-blobs_of_rows-in-B.ensures.values c.in_ok-blobs_of_rows-in-B.ensures.home)

pub col_of_rows-returns-in_ok-ints_of_rows-in-I : goal.col_of_rows-returns-in_ok-ints_of_rows-in-I
col_of_rows-returns-in_ok-ints_of_rows-in-I t c =
    rw c.in-I.is (integers_made c.args.rows.now c.args.at c.in_ok-ints_of_rows-in-I.field-0 (rw c.in-I.is at c.requires) c.in_ok-ints_of_rows-in-I.ensures.values c.in_ok-ints_of_rows-in-I.ensures.home)

pub col_of_rows-returns-in_ok-ints_of_rows-in-L : goal.col_of_rows-returns-in_ok-ints_of_rows-in-L
col_of_rows-returns-in_ok-ints_of_rows-in-L t c =
    rw c.in-L.is (longs_made c.args.rows.now c.args.at c.in_ok-ints_of_rows-in-L.field-0 (rw c.in-L.is at c.requires) c.in_ok-ints_of_rows-in-L.ensures.values c.in_ok-ints_of_rows-in-L.ensures.home)

pub table_of_rows-cols_of_rows-requires : goal.table_of_rows-cols_of_rows-requires
table_of_rows-cols_of_rows-requires t c =
    let weight = ap attributes_weight c.get.ensures in
    (omega (arith, weight), subst (λ s. AreRowsOf c.args.rows.now s) (sym c.get.ensures) (record { few = c.requires.few; whole = c.requires.whole }))

pub table_of_rows-of_columns-requires : goal.table_of_rows-of_columns-requires
table_of_rows-of_columns-requires t c =
    let whole : AreRowsOf c.args.rows.now c.args.schema.now = record { few = c.requires.few; whole = c.requires.whole } in
    let made = rw c.get.ensures at c.in_ok-cols.ensures in
    subst (λ n. AreColumnsOf n c.args.schema.now c.in_ok-cols.cols) (sym c.len.ensures)
    (columns_rebuilt (table_without_homes c.args.schema.now c.args.rows.now) c.in_ok-cols.cols (IsRebuilt-empty c.args.schema.now c.args.rows.now whole) made)

pub table_of_rows-returns : goal.table_of_rows-returns
table_of_rows-returns t c =
    let whole : AreRowsOf c.args.rows.now c.args.schema.now = record { few = c.requires.few; whole = c.requires.whole } in
    let made = rw c.get.ensures at c.in_ok-cols.ensures in
    let rebuilt = table_rebuilt (table_without_homes c.args.schema.now c.args.rows.now) c.in_ok-cols.cols (IsRebuilt-empty c.args.schema.now c.args.rows.now whole) made in
    IfOk-then c.of_columns.result c.of_columns.ensures
    (λ u e. e ∙ ap (λ n. table_of_columns n c.args.schema.now c.in_ok-cols.cols) c.len.ensures ∙ rebuilt)

pub table_of_value-table_of_rows-requires : goal.table_of_value-table_of_rows-requires
table_of_value-table_of_rows-requires t c =
    let fits = rw c.in-V.is at c.requires in
    (omega arith, (IsOf-relation c.in-V.rows c.args.schema.now).1 fits)

pub table_of_value-returns : goal.table_of_value-returns
table_of_value-returns t c =
    let rows = rows_of-relation_of c.in-V.rows in
    rw c.in-V.is (IfOk-then c.table_of_rows.result c.table_of_rows.ensures (λ u e. e ∙ ap (λ rs. table_without_homes c.args.schema.now rs) (sym rows)))

pub views_of_rows-bounds-as_slice-at : goal.views_of_rows-bounds-as_slice-at
views_of_rows-bounds-as_slice-at t c =
    place_in_row c.args.rows.now c.as_slice-row-items.result.now c.args.at c.loop-row.row-index c.row-item.result c.as_slice.result.now (record { few = c.requires.column.few; wide = c.requires.column.wide }) c.as_slice-row-items.ensures c.loop-row-test.true
    c.row-item.is c.as_slice.ensures

pub views_of_rows-table_of_value-requires : goal.views_of_rows-table_of_value-requires
views_of_rows-table_of_value-requires t c =
    let column : HasColumn c.args.rows.now c.args.at = record { few = c.requires.column.few; wide = c.requires.column.wide } in
    let here =
    value_read c.args.rows.now c.as_slice-row-items.result.now c.args.at c.loop-row.row-index c.row-item.result c.as_slice.result.now c.index-as_slice-at.result column c.as_slice-row-items.ensures c.loop-row-test.true
    c.row-item.is c.as_slice.ensures c.index-as_slice-at.is in
    let schema = c.in_ok-schema.ensures ∙ c.in_ok-copy.ensures in
    let weight = ap attributes_weight schema in
    let rows = ap length c.as_slice-row-items.ensures in
    let fit = cells_fit c.args.rows.now c.args.at (Domain.relation (heading_of c.args.schema.now)) (record { column = column; fit = c.requires.fit }) c.loop-row.row-index (integer (pos 0)) (omega (arith, rows, length-column_of c.args.rows.now c.args.at)) in
    (omega (arith, weight), subst (λ s. IsOf (datum_of c.index-as_slice-at.result) (Domain.relation (heading_of s))) (sym schema) (subst (λ d. IsOf d (Domain.relation (heading_of c.args.schema.now))) (sym here) fit))

pub views_of_rows-loop-row-preserved : goal.views_of_rows-loop-row-preserved
views_of_rows-loop-row-preserved t c =
    let column : HasColumn c.args.rows.now c.args.at = record { few = c.requires.column.few; wide = c.requires.column.wide } in
    let here =
    value_read c.args.rows.now c.as_slice-row-items.result.now c.args.at c.loop-row.row-index c.row-item.result c.as_slice.result.now c.index-as_slice-at.result column c.as_slice-row-items.ensures c.loop-row-test.true
    c.row-item.is c.as_slice.ensures c.index-as_slice-at.is in
    let schema = c.in_ok-schema.ensures ∙ c.in_ok-copy.ensures in
    column_more (λ d. table_without_homes c.args.schema.now (rows_in d)) c.args.rows.now c.as_slice-row-items.result.now c.args.at c.loop-row.row-index (datum_of c.index-as_slice-at.result) c.loop-row.tables c.push.new.self c.in_ok-share.field-0
    c.as_slice-row-items.ensures c.loop-row-test.true here c.loop-row.invariant
    (c.in_ok-share.ensures ∙ c.in_ok-table.ensures ∙ ap (λ s. table_without_homes s (rows_in (datum_of c.index-as_slice-at.result))) schema) c.in_ok-push.ensures.ok

pub views_of_rows-returns : goal.views_of_rows-returns
views_of_rows-returns t c =
    column_read (λ d. table_without_homes c.args.schema.now (rows_in d)) c.args.rows.now c.as_slice-row-items.result.now c.args.at c.loop-row.row-index c.loop-row.tables c.as_slice-row-items.ensures (omega arith) c.loop-row.invariant

pub cols_of_rows-col_of_rows-requires : goal.cols_of_rows-col_of_rows-requires
cols_of_rows-col_of_rows-requires t c =
    let whole : AreRowsOf c.args.rows.now c.args.schema.now = record { few = c.requires.few; whole = c.requires.whole } in
    let props = ap length c.as_slice-props.ensures.value in
    let within : c.loop-at.at < length c.args.schema.now = omega (arith, props) in
    let kind = ap (λ (a : Attribute). a.domain) c.prop.view_is in
    let domain = domain_read c.args.schema.now c.loop-at.at c.index-props-at.result (domain_of c.prop.inside.kind) within (rw c.as_slice-props.ensures.value at c.index-props-at.is) kind in
    let weight = attributes_weight-at c.args.schema.now c.loop-at.at (record { name = []; domain = Domain.integer }) within in
    (omega (arith, weight, ap domain_weight domain), subst (λ e. AreCells c.args.rows.now c.loop-at.at e) domain (cells_of_rows c.args.rows.now c.args.schema.now c.loop-at.at whole within))

pub cols_of_rows-loop-at-init : goal.cols_of_rows-loop-at-init
cols_of_rows-loop-at-init t c = no_first_columns (table_without_homes c.args.schema.now c.args.rows.now) c.in_ok-cols.cols c.in_ok-cols.ensures

pub cols_of_rows-loop-at-preserved : goal.cols_of_rows-loop-at-preserved
cols_of_rows-loop-at-preserved t c =
    let props = ap length c.as_slice-props.ensures.value in
    let within : c.loop-at.at < length c.args.schema.now = omega (arith, props) in
    let kind = ap (λ (a : Attribute). a.domain) c.prop.view_is in
    let domain = domain_read c.args.schema.now c.loop-at.at c.index-props-at.result (domain_of c.prop.inside.kind) within (rw c.as_slice-props.ensures.value at c.index-props-at.is) kind in
    let column = column_of c.args.rows.now c.loop-at.at in
    let made = subst (λ e. IsColumnWith e column (empty_home e column) (stored_of c.in_ok-col_of_rows.field-0)) (sym domain) c.in_ok-col_of_rows.ensures in
    first_columns_more (table_without_homes c.args.schema.now c.args.rows.now) c.loop-at.at c.loop-at.cols c.push.new.self (stored_of c.in_ok-col_of_rows.field-0)
    (record { paired = c.loop-at.invariant.paired; each = c.loop-at.invariant.each }) c.in_ok-push.ensures.ok
    (column_empty c.args.schema.now c.args.rows.now c.loop-at.at (stored_of c.in_ok-col_of_rows.field-0) within made)

pub cols_of_rows-returns : goal.cols_of_rows-returns
cols_of_rows-returns t c =
    let props = ap length c.as_slice-props.ensures.value in
    all_columns (table_without_homes c.args.schema.now c.args.rows.now) c.loop-at.at c.loop-at.cols (record { paired = c.loop-at.invariant.paired; each = c.loop-at.invariant.each }) (omega (arith, props))
