use Rattle.std.proofs.Common.{◌∙◌, to_z, of_z, w64}
use Rattle.std.proofs.lemmas.Int.{to_z-of_z}
use Rattle.mk_value.specs.Tables.{number_in}
use Rattle.mk_value.specs.Values.{datum_of}
use Rattle.tables.proofs.Cells.{value_read, column_more}
use Rattle.tables.proofs.build.ints_of_rows.Goals as goal

pub loop-row-preserved : goal.loop-row-preserved
loop-row-preserved c =
    let here =
    value_read c.args.rows.now c.as_slice-row-items.result.now c.args.at c.loop-row.row-index c.row-item.result c.as_slice.result.now c.index-as_slice-at.result c.requires c.as_slice-row-items.ensures c.loop-row-test.true
    c.row-item.is c.as_slice.ensures c.index-as_slice-at.is in
    column_more number_in c.args.rows.now c.as_slice-row-items.result.now c.args.at c.loop-row.row-index (datum_of c.index-as_slice-at.result) c.loop-row.values.items c.push.new.self.items (to_z w64 (of_z w64 c.number_of.result))
    c.as_slice-row-items.ensures c.loop-row-test.true here c.loop-row.invariant (to_z-of_z w64 c.number_of.result (record { sfits = c.number_of.type_inv }) ∙ c.number_of.ensures) c.in_ok-push.ensures.items
