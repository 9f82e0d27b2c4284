use Rattle.std.proofs.Common.{◌≡◌, ◌∙◌, length, ap, sym, subst}
use Rattle.mk_value.proofs.Relations.{row_fits_length}
use Rattle.tables.specs.Columns.{table_of_columns}
use Rattle.tables.specs.Rests.{RestsOn}
use Rattle.tables.specs.Tables.{StoredTable}
use Rattle.tables.proofs.EditedTables.{RestsOn-self, inserted-rests}
use Rattle.tables.proofs.Gathering.{length-rows_of_columns}
use Rattle.tables.proofs.Pushed.{are_ready, rows_done}
use Rattle.tables.proofs.table.Table.put_rows.Goals as goal

pub insert_rows-requires-clause-ready : goal.insert_rows-requires-clause-ready
insert_rows-requires-clause-ready c =
    let own = c.self.inside in
    let count : c.len-rows.result ≡ own.rows = c.len-rows.ensures.value ∙ ap (λ (t : StoredTable). length t.rows) (sym c.self.view_is) ∙ length-rows_of_columns own.rows own.schema own.cols in
    rw (count, c.as_slice-props.ensures.value, c.get.ensures, c.as_slice.ensures)
    (are_ready own.rows own.schema c.args.row.now own.cols c.self.invariant (rw (← c.self.view_is) at c.requires.row))

pub returns-in_err-insert_rows-clause-rests : goal.returns-in_err-insert_rows-clause-rests
returns-in_err-insert_rows-clause-rests c =
    let P : StoredTable → Type 0 = λ t. RestsOn t c.args.self.now in
    rw c.in_err-insert_rows.ensures.err (subst P (sym c.self.view_is) (RestsOn-self c.args.self.now))

pub invariant_of-self-2 : goal.invariant_of-self-2
invariant_of-self-2 c =
    let own = c.self.inside in
    let count : c.len-rows.result ≡ own.rows = c.len-rows.ensures.value ∙ ap (λ (t : StoredTable). length t.rows) (sym c.self.view_is) ∙ length-rows_of_columns own.rows own.schema own.cols in
    let put = rw (c.as_slice-props.ensures.value, c.get.ensures, c.as_slice.ensures) at c.in_ok-insert_rows.ensures.ok in
    let homes = rw (← c.self.view_is) at c.len-rows.ensures.homes in
    let fits = rw (← c.self.view_is) at c.requires.row in
    let done = rows_done own.rows c.args.at c.args.count own.schema c.args.row.now own.cols c.insert_rows.new.self c.self.invariant (rw (← c.self.view_is) at c.len-rows.ensures.whole) homes
    (rw (← c.self.view_is) at c.requires.at) (rw (← c.self.view_is) at c.requires.few) c.requires.some fits put in
    rw count done.whole

pub returns-clause-ok : goal.returns-clause-ok
returns-clause-ok c =
    let own = c.self.inside in
    let count : c.len-rows.result ≡ own.rows = c.len-rows.ensures.value ∙ ap (λ (t : StoredTable). length t.rows) (sym c.self.view_is) ∙ length-rows_of_columns own.rows own.schema own.cols in
    let put = rw (c.as_slice-props.ensures.value, c.get.ensures, c.as_slice.ensures) at c.in_ok-insert_rows.ensures.ok in
    let homes = rw (← c.self.view_is) at c.len-rows.ensures.homes in
    let fits = rw (← c.self.view_is) at c.requires.row in
    let done = rows_done own.rows c.args.at c.args.count own.schema c.args.row.now own.cols c.insert_rows.new.self c.self.invariant (rw (← c.self.view_is) at c.len-rows.ensures.whole) homes
    (rw (← c.self.view_is) at c.requires.at) (rw (← c.self.view_is) at c.requires.few) c.requires.some fits put in
    rw (← c.self.view_is, count) done.table

pub returns-clause-rests : goal.returns-clause-rests
returns-clause-rests c =
    let own = c.self.inside in
    let count : c.len-rows.result ≡ own.rows = c.len-rows.ensures.value ∙ ap (λ (t : StoredTable). length t.rows) (sym c.self.view_is) ∙ length-rows_of_columns own.rows own.schema own.cols in
    let put = rw (c.as_slice-props.ensures.value, c.get.ensures, c.as_slice.ensures) at c.in_ok-insert_rows.ensures.ok in
    let homes = rw (← c.self.view_is) at c.len-rows.ensures.homes in
    let fits = rw (← c.self.view_is) at c.requires.row in
    let done = rows_done own.rows c.args.at c.args.count own.schema c.args.row.now own.cols c.insert_rows.new.self c.self.invariant (rw (← c.self.view_is) at c.len-rows.ensures.whole) homes
    (rw (← c.self.view_is) at c.requires.at) (rw (← c.self.view_is) at c.requires.few) c.requires.some fits put in
    let before : StoredTable = table_of_columns own.rows own.schema own.cols in
    rw (← c.self.view_is, count)
    (subst (λ (t : StoredTable). RestsOn t before) (sym done.table)
    (inserted-rests before c.args.at c.args.row.now c.args.count homes (row_fits_length c.args.row.now own.schema fits)))
