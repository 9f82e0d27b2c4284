use Rattle.std.proofs.Common.{◌∙◌, ◌∷◌, [], ap, map}
use Rattle.std.proofs.lemmas.List.{map-append}
use Rattle.mk_value.specs.Buffer.{Buffer}
use Rattle.mk_value.specs.Values.{datum_of}
use Rattle.tables.specs.Shapes.{bytes_in}
use Rattle.tables.proofs.Cells.{value_read, column_more}
use Rattle.tables.proofs.build.blobs_of_rows.Goals as goal

pub loop-row-preserved : goal.loop-row-preserved
loop-row-preserved c =
    let here =
    value_read c.args.rows.now c.as_slice-row-items.result.now c.args.at c.loop-row.row-index c.row-item.result c.as_slice.result.now c.index-as_slice-at.result c.requires c.as_slice-row-items.ensures c.loop-row-test.true
    c.row-item.is c.as_slice.ensures c.index-as_slice-at.is in
    let content = λ (value : Buffer). value.bytes in
    column_more bytes_in c.args.rows.now c.as_slice-row-items.result.now c.args.at c.loop-row.row-index (datum_of c.index-as_slice-at.result) (map content c.loop-row.values.items) (map content c.push.new.self.items) (content c.in_ok-bytes_of.field-0)
    c.as_slice-row-items.ensures c.loop-row-test.true here c.loop-row.invariant c.in_ok-bytes_of.ensures
    (ap (λ xs. map content xs) c.in_ok-push.ensures.items ∙ map-append content c.loop-row.values.items (c.in_ok-bytes_of.field-0 ∷ []))
