use Rattle.std.proofs.Common.{◌≡◌, ◌∙◌, to_z, of_z, w32, w64, ap, sym, [], arith, length}
use Rattle.std.proofs.lemmas.Int.{to_z-of_z}
use Rattle.mk_value.specs.Data.{integer, long, relation, relation_of}
use Rattle.mk_value.specs.Heading.{Domain, heading_of, attributes_weight, domain_weight}
use Rattle.mk_value.specs.Kinds.{domain_of}
use Rattle.mk_value.proofs.Headings.{attributes_weight-at}
use Rattle.tables.specs.Tables.{StoredTable}
use Rattle.mk_value.specs.Values.{datum_of}
use Rattle.tables.specs.Read.{values_read}
use Rattle.tables.specs.Stored.{stored_of}
use Rattle.tables.proofs.Reading.{integer_read, long_read, view_read, inner_lighter, length-column_of, row_more, row_full}
use Rattle.tables.proofs.+copy.Goals as goal

pub column::Column::value-to_rows-requires : goal.column::Column::value-to_rows-requires
column::Column::value-to_rows-requires t c =
    let h = heading_of c.in-V.field-0 in
    let whole = rw c.in-V.is at c.requires.whole in
    let light = inner_lighter _ h (stored_of c.args.self.now.col.now) c.views.result.now c.args.row c.get-in-V.result whole c.views.ensures c.get-in-V.ensures in
    let kind = ap (λ k. domain_weight (domain_of k)) c.in-V.is in
    omega (arith, light, kind)

pub column::Column::value-returns-in-I : goal.column::Column::value-returns-in-I
column::Column::value-returns-in-I t c =
    let whole = rw c.in-I.is at c.requires.whole in
    let read = integer_read _ (stored_of c.args.self.now.col.now) c.ints.result.now c.args.row c.get.result whole c.ints.ensures c.get.ensures in
    let number : to_z w32 (of_z w32 (to_z w64 (of_z w64 c.get.result))) ≡ c.get.result =
    ap (λ z. to_z w32 (of_z w32 z)) (to_z-of_z w64 c.get.result (record { sfits = c.get.type_inv })) ∙ to_z-of_z w32 c.get.result read.fits in
    ap integer number ∙ rw c.in-I.is (sym read.value)

pub column::Column::value-returns-in-L : goal.column::Column::value-returns-in-L
column::Column::value-returns-in-L t c =
    let whole = rw c.in-L.is at c.requires.whole in
    let read = long_read _ (stored_of c.args.self.now.col.now) c.ints-in-L.result.now c.args.row c.get-in-L.result whole c.ints-in-L.ensures c.get-in-L.ensures in
    ap long (to_z-of_z w64 c.get-in-L.result read.fits) ∙ rw c.in-L.is (sym read.value)

pub column::Column::value-returns-in_ok-to_rows-in-V : goal.column::Column::value-returns-in_ok-to_rows-in-V
column::Column::value-returns-in_ok-to_rows-in-V t c =
    let h = heading_of c.in-V.field-0 in
    ap (λ rs. relation (relation_of rs)) c.in_ok-to_rows-in-V.ensures
    ∙ rw c.in-V.is (sym (view_read h (stored_of c.args.self.now.col.now) c.views.result.now c.args.row c.get-in-V.result c.views.ensures c.get-in-V.ensures))

pub table::Table::row-value-requires : goal.table::Table::row-value-requires
table::Table::row-value-requires t c =
    let kind = ap domain_weight c.column.ensures.kind in
    let width = c.width-col-end.ensures.width in
    let weight = attributes_weight-at c.args.self.now.schema c.loop-col.col (record { name = []; domain = Domain.integer }) (omega arith) in
    let long = ap length c.column.ensures.values ∙ length-column_of c.args.self.now.rows c.loop-col.col in
    (omega (arith, kind, weight), (c.column.ensures.whole, omega (arith, long)))

pub table::Table::row-loop-col-preserved : goal.table::Table::row-loop-col-preserved
table::Table::row-loop-col-preserved t c =
    row_more c.args.self.now c.args.at c.loop-col.col c.loop-col.row c.push.new.self (datum_of c.in_ok-value.field-0) (values_read c.column.result) c.width-col-end.ensures.whole c.requires (let width = c.width-col-end.ensures.width in omega arith)
    c.loop-col.invariant c.column.ensures.values c.in_ok-value.ensures c.in_ok-push.ensures.ok

pub table::Table::row-returns : goal.table::Table::row-returns
table::Table::row-returns t c =
    row_full c.args.self.now c.args.at c.loop-col.col c.loop-col.row c.width-col-end.ensures.whole c.requires (let width = c.width-col-end.ensures.width in omega arith) c.loop-col.invariant
