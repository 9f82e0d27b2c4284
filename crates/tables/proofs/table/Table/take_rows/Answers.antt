use Rattle.std.proofs.Common.{◌≡◌, ◌∙◌, ◌+◌, length, ap, sym, subst, arith}
use Rattle.tables.specs.Columns.{table_of_columns}
use Rattle.tables.specs.Rests.{RestsOn}
use Rattle.tables.specs.Tables.{StoredTable}
use Rattle.tables.proofs.Edited.{have_some, taken_done}
use Rattle.tables.proofs.EditedTables.{RestsOn-self, removed-rests}
use Rattle.tables.proofs.Gathering.{length-rows_of_columns}
use Rattle.tables.proofs.table.Table.take_rows.Goals as goal

pub remove_rows-requires-clause-within : goal.remove_rows-requires-clause-within
remove_rows-requires-clause-within c =
    let own = c.self.inside in
    let count : c.len-rows.result ≡ own.rows = c.len-rows.ensures.value ∙ ap (λ (t : StoredTable). length t.rows) (sym c.self.view_is) ∙ length-rows_of_columns own.rows own.schema own.cols in
    have_some own.rows (c.args.at + c.args.count) own.schema own.cols (omega (arith, count, c.requires.within, c.len-rows.ensures.value)) c.self.invariant

pub returns-in_err-remove_rows-clause-rests : goal.returns-in_err-remove_rows-clause-rests
returns-in_err-remove_rows-clause-rests c =
    let P : StoredTable → Type 0 = λ t. RestsOn t c.args.self.now in
    rw c.in_err-remove_rows.ensures.err (subst P (sym c.self.view_is) (RestsOn-self c.args.self.now))

pub invariant_of-self-2 : goal.invariant_of-self-2
invariant_of-self-2 c =
    let own = c.self.inside in
    let count : c.len-rows.result ≡ own.rows = c.len-rows.ensures.value ∙ ap (λ (t : StoredTable). length t.rows) (sym c.self.view_is) ∙ length-rows_of_columns own.rows own.schema own.cols in
    let homes = rw (← c.self.view_is) at c.len-rows.ensures.homes in
    let done = taken_done own.rows c.args.at c.args.count own.schema own.cols c.remove_rows.new.self c.self.invariant (rw (← c.self.view_is) at c.len-rows.ensures.whole) homes
    (rw (← c.self.view_is) at c.requires.within) c.requires.some c.in_ok-remove_rows.ensures.ok in
    rw count done.whole

pub returns-clause-ok : goal.returns-clause-ok
returns-clause-ok c =
    let own = c.self.inside in
    let count : c.len-rows.result ≡ own.rows = c.len-rows.ensures.value ∙ ap (λ (t : StoredTable). length t.rows) (sym c.self.view_is) ∙ length-rows_of_columns own.rows own.schema own.cols in
    let homes = rw (← c.self.view_is) at c.len-rows.ensures.homes in
    let done = taken_done own.rows c.args.at c.args.count own.schema own.cols c.remove_rows.new.self c.self.invariant (rw (← c.self.view_is) at c.len-rows.ensures.whole) homes
    (rw (← c.self.view_is) at c.requires.within) c.requires.some c.in_ok-remove_rows.ensures.ok in
    rw (← c.self.view_is, count) done.table

pub returns-clause-rests : goal.returns-clause-rests
returns-clause-rests c =
    let own = c.self.inside in
    let count : c.len-rows.result ≡ own.rows = c.len-rows.ensures.value ∙ ap (λ (t : StoredTable). length t.rows) (sym c.self.view_is) ∙ length-rows_of_columns own.rows own.schema own.cols in
    let homes = rw (← c.self.view_is) at c.len-rows.ensures.homes in
    let done = taken_done own.rows c.args.at c.args.count own.schema own.cols c.remove_rows.new.self c.self.invariant (rw (← c.self.view_is) at c.len-rows.ensures.whole) homes
    (rw (← c.self.view_is) at c.requires.within) c.requires.some c.in_ok-remove_rows.ensures.ok in
    let before : StoredTable = table_of_columns own.rows own.schema own.cols in
    rw (← c.self.view_is, count)
    (subst (λ (t : StoredTable). RestsOn t before) (sym done.table) (removed-rests before c.args.at c.args.count homes))
