use Rattle.std.proofs.Common.{length, ap, sym, subst, ◌∙◌, arith}
use Rattle.dir_codec.specs.declared.dir.DirBody.{DirBody}
use Rattle.dir_codec.specs.Values.{body_of, entry_of}
use Rattle.dir_codec.specs.Dir.{Entry}
use Rattle.tables.specs.Stored.{stored_of}
use Rattle.commit_plan.specs.Entries.{IsBodyOf, stored_entry}
use Rattle.commit_plan.proofs.Sizes.{column_within, columns_lighter}
use Rattle.commit_plan.proofs.TableEntries.{bodies_more, bodies_together, body_is, entries_more}
use Rattle.commit_plan.proofs.entries.+entries.Goals as goal

pub col_entry-returns-in_ok-tables_bodies-in-Views : goal.col_entry-returns-in_ok-tables_bodies-in-Views
col_entry-returns-in_ok-tables_bodies-in-Views t c =
    ap Entry.tables (bodies_together c.in-Views.tables c.in_ok-tables_bodies-in-Views.field-0 c.in_ok-tables_bodies-in-Views.ensures) ∙ sym (ap (λ x. stored_entry (stored_of x)) c.in-Views.is)

pub cols_entries-col_entry-requires : goal.cols_entries-col_entry-requires
cols_entries-col_entry-requires t c =
    let within = column_within c.args.cols.now c.as_slice-col-items.result.now c.cols.col-index c.col-item.result c.as_slice-col-items.ensures c.col-item.is c.cols-test.true in
    (omega (arith, within), tt)

pub cols_entries-cols-preserved : goal.cols_entries-cols-preserved
cols_entries-cols-preserved t c =
    entries_more c.args.cols.now c.as_slice-col-items.result.now c.cols.col-index c.col-item.result c.cols.entries c.push.new.self (entry_of c.in_ok-col_entry.field-0)
    c.as_slice-col-items.ensures c.col-item.is c.cols-test.true c.cols.invariant c.in_ok-col_entry.ensures c.in_ok-push.ensures.ok

pub table_body-cols_entries-requires : goal.table_body-cols_entries-requires
table_body-cols_entries-requires t c =
    let lighter = columns_lighter (length c.args.table.now.rows) c.args.table.now.schema c.cols.result.now c.args.table.now c.cols.ensures.value c.cols.ensures.whole in
    (omega (arith, lighter), tt)

pub table_body-returns : goal.table_body-returns
table_body-returns t c =
    let made : DirBody = record { rows = c.len.result; cols = c.in_ok-cols_entries.field-0 } in
    subst (λ u. IsBodyOf u (body_of made)) (sym c.cols.ensures.value)
    (body_is (length c.args.table.now.rows) c.args.table.now.schema c.cols.result.now (body_of made) c.cols.ensures.whole c.len.ensures.value c.in_ok-cols_entries.ensures)

pub tables_bodies-rows-preserved : goal.tables_bodies-rows-preserved
tables_bodies-rows-preserved t c =
    bodies_more c.args.tables.now c.rows.row c.get.result c.table.result.now c.rows.bodies c.push.new.self (body_of c.in_ok-table_body.field-0) c.get.ensures (c.table.ensures ∙ c.in_ok-inner.ensures) c.rows.invariant c.in_ok-table_body.ensures c.in_ok-push.ensures.ok
