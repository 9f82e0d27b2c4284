use Rattle.std.proofs.Common.{length, ap, arith}
use Rattle.mk_value.specs.Heading.{heading_of}
use Rattle.tables.specs.Columns.{AreColumnsOf}
use Rattle.tables.specs.Tables.{StoredTable}
use Rattle.tables.proofs.Gathering.{length-columns}
use Rattle.tables.proofs.Rested.{inner_rests}
use Rattle.tables.proofs.Setting.{by_answer, OnOk-then, has_view_there, view_done}
use Rattle.tables.proofs.table.Table.set_inner.Goals as goal

pub set_view-requires-clause-col : goal.set_view-requires-clause-col
set_view-requires-clause-col c =
    let width = ap (λ (t : StoredTable). length t.schema) c.self.view_is in
    let col_in = c.requires.col_in in
    omega (arith, width, col_in, length-columns c.self.inside.rows c.self.inside.schema c.self.inside.cols c.self.invariant.each)

pub set_view-requires-clause-row : goal.set_view-requires-clause-row
set_view-requires-clause-row c =
    has_view_there c.self.inside.rows c.args.row c.args.col c.self.inside.schema c.self.inside.cols c.args.self.now (heading_of c.args.table.schema) c.self.view_is (record { few = c.self.invariant.few; each = c.self.invariant.each })
    c.requires.row_in c.requires.col_in c.requires.view

pub invariant_of-self : goal.invariant_of-self
invariant_of-self c =
    let are : AreColumnsOf c.self.inside.rows c.self.inside.schema c.self.inside.cols = record { few = c.self.invariant.few; each = c.self.invariant.each } in
    let whole = rw c.table.ensures at c.len-rows.ensures.whole in
    let homes = rw c.table.ensures at c.len-rows.ensures.homes in
    by_answer (λ cols. AreColumnsOf c.self.inside.rows c.self.inside.schema cols) c.set_view.result c.set_view.new.self c.self.inside.cols
    (OnOk-then c.set_view.result c.set_view.ensures.ok
    (λ done. (view_done c.self.inside.rows c.args.row c.args.col c.self.inside.schema c.self.inside.cols c.set_view.new.self c.args.self.now c.args.table c.self.view_is are c.requires.row_in c.requires.col_in c.requires.view whole homes done).whole))
    c.set_view.ensures.err are

pub returns-clause-ok : goal.returns-clause-ok
returns-clause-ok c =
    let are : AreColumnsOf c.self.inside.rows c.self.inside.schema c.self.inside.cols = record { few = c.self.invariant.few; each = c.self.invariant.each } in
    let whole = rw c.table.ensures at c.len-rows.ensures.whole in
    let homes = rw c.table.ensures at c.len-rows.ensures.homes in
    OnOk-then c.set_view.result c.set_view.ensures.ok
    (λ done. (view_done c.self.inside.rows c.args.row c.args.col c.self.inside.schema c.self.inside.cols c.set_view.new.self c.args.self.now c.args.table c.self.view_is are c.requires.row_in c.requires.col_in c.requires.view whole homes done).table)

pub returns-clause-rests : goal.returns-clause-rests
returns-clause-rests c = λ inside.
    let are : AreColumnsOf c.self.inside.rows c.self.inside.schema c.self.inside.cols = record { few = c.self.invariant.few; each = c.self.invariant.each } in
    let whole = rw c.table.ensures at c.len-rows.ensures.whole in
    let homes = rw c.table.ensures at c.len-rows.ensures.homes in
    let ok = OnOk-then c.set_view.result c.set_view.ensures.ok
    (λ done. (view_done c.self.inside.rows c.args.row c.args.col c.self.inside.schema c.self.inside.cols c.set_view.new.self c.args.self.now c.args.table c.self.view_is are c.requires.row_in c.requires.col_in c.requires.view whole homes done).table)
    in
    inner_rests c.set_view.result c.self.inside.rows c.self.inside.schema c.self.inside.cols c.set_view.new.self c.args.self.now c.args.row c.args.col c.args.table c.self.view_is are c.requires.row_in c.requires.col_in c.requires.view ok c.set_view.ensures.err inside
