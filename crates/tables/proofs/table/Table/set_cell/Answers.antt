use Rattle.std.proofs.Common.{◌≡◌, ◌<◌, length, ◌∙◌, ap, sym, arith}
use Rattle.mk_value.specs.Heading.{Attribute}
use Rattle.mk_value.specs.Kinds.{domain_of}
use Rattle.mk_value.specs.Values.{datum_of}
use Rattle.mk_value.specs.Tables.{domain_at}
use Rattle.tables.specs.Columns.{AreColumnsOf}
use Rattle.tables.specs.Homes.{empty_homes_in}
use Rattle.tables.specs.Tables.{StoredTable, with_value}
use Rattle.tables.proofs.Gathering.{length-rows_of_columns, length-columns}
use Rattle.tables.proofs.Reading.{domain_read}
use Rattle.tables.proofs.Rested.{set_rests}
use Rattle.tables.proofs.Setting.{by_answer, OnOk-then, column_there, set_done}
use Rattle.tables.proofs.table.Table.set_cell.Goals as goal

pub set_value-requires-clause-col : goal.set_value-requires-clause-col
set_value-requires-clause-col c =
    let width = ap (λ (t : StoredTable). length t.schema) c.self.view_is in
    let col_in = c.requires.col_in in
    omega (arith, width, col_in, length-columns c.self.inside.rows c.self.inside.schema c.self.inside.cols c.self.invariant.each)

pub set_value-requires-clause-whole : goal.set_value-requires-clause-whole
set_value-requires-clause-whole c =
    let width = ap (λ (t : StoredTable). length t.schema) c.self.view_is in
    let col_in = c.requires.col_in in
    let within : c.args.col < length c.self.inside.schema = omega (arith, width, col_in) in
    let kind = domain_read c.self.inside.schema c.args.col c.index-as_slice-col.result (domain_of c.prop.inside.kind) within (rw (c.as_slice.ensures.value, c.get.ensures) at c.index-as_slice-col.is) (ap (λ (a : Attribute). a.domain) c.prop.view_is) in
    let there = column_there c.self.inside.rows c.args.col c.self.inside.schema c.self.inside.cols (domain_of c.prop.inside.kind) (record { few = c.self.invariant.few; each = c.self.invariant.each }) within kind in
    there.whole

pub set_value-requires-clause-row : goal.set_value-requires-clause-row
set_value-requires-clause-row c =
    let width = ap (λ (t : StoredTable). length t.schema) c.self.view_is in
    let rows = ap (λ (t : StoredTable). length t.rows) c.self.view_is in
    let col_in = c.requires.col_in in
    let row_in = c.requires.row_in in
    let within : c.args.col < length c.self.inside.schema = omega (arith, width, col_in) in
    let kind = domain_read c.self.inside.schema c.args.col c.index-as_slice-col.result (domain_of c.prop.inside.kind) within (rw (c.as_slice.ensures.value, c.get.ensures) at c.index-as_slice-col.is) (ap (λ (a : Attribute). a.domain) c.prop.view_is) in
    let there = column_there c.self.inside.rows c.args.col c.self.inside.schema c.self.inside.cols (domain_of c.prop.inside.kind) (record { few = c.self.invariant.few; each = c.self.invariant.each }) within kind in
    let many = there.many in
    omega (arith, many, rows, row_in, length-rows_of_columns c.self.inside.rows c.self.inside.schema c.self.inside.cols)

pub invariant_of-self : goal.invariant_of-self
invariant_of-self c =
    let width = ap (λ (t : StoredTable). length t.schema) c.self.view_is in
    let col_in = c.requires.col_in in
    let within : c.args.col < length c.self.inside.schema = omega (arith, width, col_in) in
    let kind = domain_read c.self.inside.schema c.args.col c.index-as_slice-col.result (domain_of c.prop.inside.kind) within (rw (c.as_slice.ensures.value, c.get.ensures) at c.index-as_slice-col.is) (ap (λ (a : Attribute). a.domain) c.prop.view_is) in
    let e = domain_of c.prop.inside.kind in
    let d = datum_of c.args.value.now in
    let are : AreColumnsOf c.self.inside.rows c.self.inside.schema c.self.inside.cols = record { few = c.self.invariant.few; each = c.self.invariant.each } in
    by_answer (λ cols. AreColumnsOf c.self.inside.rows c.self.inside.schema cols) c.set_value.result c.set_value.new.self c.self.inside.cols
    (OnOk-then c.set_value.result c.set_value.ensures.ok
    (λ done. (set_done c.self.inside.rows c.args.row c.args.col c.self.inside.schema c.self.inside.cols c.set_value.new.self c.args.self.now e d (empty_homes_in e d) c.self.view_is are c.requires.row_in c.requires.col_in (sym kind) done).whole))
    c.set_value.ensures.err are

pub returns-clause-ok : goal.returns-clause-ok
returns-clause-ok c =
    let width = ap (λ (t : StoredTable). length t.schema) c.self.view_is in
    let col_in = c.requires.col_in in
    let within : c.args.col < length c.self.inside.schema = omega (arith, width, col_in) in
    let kind = domain_read c.self.inside.schema c.args.col c.index-as_slice-col.result (domain_of c.prop.inside.kind) within (rw (c.as_slice.ensures.value, c.get.ensures) at c.index-as_slice-col.is) (ap (λ (a : Attribute). a.domain) c.prop.view_is) in
    let e = domain_of c.prop.inside.kind in
    let d = datum_of c.args.value.now in
    let are : AreColumnsOf c.self.inside.rows c.self.inside.schema c.self.inside.cols = record { few = c.self.invariant.few; each = c.self.invariant.each } in
    let known : e ≡ domain_at c.args.self.now.schema c.args.col = sym kind ∙ ap (λ (t : StoredTable). domain_at t.schema c.args.col) c.self.view_is in
    OnOk-then c.set_value.result c.set_value.ensures.ok
    (λ done. (set_done c.self.inside.rows c.args.row c.args.col c.self.inside.schema c.self.inside.cols c.set_value.new.self c.args.self.now e d (empty_homes_in e d) c.self.view_is are c.requires.row_in c.requires.col_in (sym kind) done).table
    ∙ ap (λ f. with_value c.args.self.now c.args.row c.args.col d (empty_homes_in f d)) known)

pub returns-clause-rests : goal.returns-clause-rests
returns-clause-rests c =
    let width = ap (λ (t : StoredTable). length t.schema) c.self.view_is in
    let col_in = c.requires.col_in in
    let within : c.args.col < length c.self.inside.schema = omega (arith, width, col_in) in
    let kind = domain_read c.self.inside.schema c.args.col c.index-as_slice-col.result (domain_of c.prop.inside.kind) within (rw (c.as_slice.ensures.value, c.get.ensures) at c.index-as_slice-col.is) (ap (λ (a : Attribute). a.domain) c.prop.view_is) in
    let e = domain_of c.prop.inside.kind in
    let d = datum_of c.args.value.now in
    let are : AreColumnsOf c.self.inside.rows c.self.inside.schema c.self.inside.cols = record { few = c.self.invariant.few; each = c.self.invariant.each } in
    let known : e ≡ domain_at c.args.self.now.schema c.args.col = sym kind ∙ ap (λ (t : StoredTable). domain_at t.schema c.args.col) c.self.view_is in
    let ok = OnOk-then c.set_value.result c.set_value.ensures.ok
    (λ done. (set_done c.self.inside.rows c.args.row c.args.col c.self.inside.schema c.self.inside.cols c.set_value.new.self c.args.self.now e d (empty_homes_in e d) c.self.view_is are c.requires.row_in c.requires.col_in (sym kind) done).table
    ∙ ap (λ f. with_value c.args.self.now c.args.row c.args.col d (empty_homes_in f d)) known)
    in
    set_rests c.set_value.result c.self.inside.rows c.self.inside.schema c.self.inside.cols c.set_value.new.self c.args.self.now c.args.row c.args.col d c.self.view_is are c.requires.row_in c.requires.col_in ok c.set_value.ensures.err
