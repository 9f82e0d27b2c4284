use Rattle.std.proofs.Common.{length, ap, ◌∙◌, arith, rules}
use Rattle.std.proofs.lemmas.List.{length-map}
use Rattle.mk_value.specs.Data.{cell}
use Rattle.mk_value.specs.Tables.{Table}
use Rattle.mk_value.specs.Values.{datum_of}
use Rattle.mk_value.proofs.Cells.{column_in, cell_read}
use Rattle.mk_value.proofs.Walks.{map_read}
use Rattle.mk_value.proofs.table.HeldRows.cell.Goals as goal

pub bounds-as_slice-col : goal.bounds-as_slice-col
bounds-as_slice-col c =
    let rows = ap (λ (t : Table). length t.rows) c.self.view_is in
    let columns = ap (λ (t : Table). length t.schema) c.self.view_is in
    column_in c.self.inside.rows c.self.inside.schema c.args.row c.args.col c.index-as_slice-row.result c.as_slice-2.result.now c.self.invariant
    (omega arith) (omega arith) (rw c.as_slice.ensures at c.index-as_slice-row.is) c.as_slice-2.ensures

pub offset_bounds-as_slice-col : goal.offset_bounds-as_slice-col
offset_bounds-as_slice-col c =
    let rows = ap (λ (t : Table). length t.rows) c.self.view_is in
    let columns = ap (λ (t : Table). length t.schema) c.self.view_is in
    let within = column_in c.self.inside.rows c.self.inside.schema c.args.row c.args.col c.index-as_slice-row.result c.as_slice-2.result.now c.self.invariant
    (omega arith) (omega arith) (rw c.as_slice.ensures at c.index-as_slice-row.is) c.as_slice-2.ensures in
    search rules

pub returns : goal.returns
returns c =
    let rows = ap (λ (t : Table). length t.rows) c.self.view_is in
    let columns = ap (λ (t : Table). length t.schema) c.self.view_is in
    let row = rw c.as_slice.ensures at c.index-as_slice-row.is in
    let within = column_in c.self.inside.rows c.self.inside.schema c.args.row c.args.col c.index-as_slice-row.result c.as_slice-2.result.now c.self.invariant
    (omega arith) (omega arith) row c.as_slice-2.ensures in
    let values = ap length c.as_slice-2.ensures in
    let value = map_read datum_of c.as_slice-2.result.now c.args.col c.index-as_slice-col.result within c.index-as_slice-col.is in
    cell_read c.self.inside.rows c.args.row c.args.col c.index-as_slice-row.result (datum_of c.index-as_slice-col.result)
    (omega arith) (omega (arith, length-map c.as_slice-2.result.now datum_of)) row (rw c.as_slice-2.ensures at value)
    ∙ ap (λ (t : Table). cell t.rows c.args.row c.args.col) c.self.view_is
