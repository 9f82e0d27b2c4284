use Rattle.std.proofs.Common.{map, ap, arith, ◌∙◌, sym, subst}
use Rattle.std.proofs.lemmas.List.{length-map}
use Rattle.std.specs.List.{slice_get}
use Rattle.mk_value.specs.Heading.{Attribute, heading_of}
use Rattle.mk_value.specs.Data.{Datum, datum_weight, row_weight, rows_weight, relation_of}
use Rattle.mk_value.specs.Conversions.{CellFits, cell_becomes, rows_become}
use Rattle.mk_value.specs.LiteralValues.{literal_of}
use Rattle.mk_value.proofs.Relations.{relation_weight-relation_of, row_weight_read, rows_weight_read}
use Rattle.mk_value.proofs.Converting.{cell_fits, row_converted_more, relation_of-rows_of}
use Rattle.mk_value.proofs.Walks.{drop_read, map_read, slice_map_read, slice_map_past}
use Rattle.mk_value.proofs.conversion.+convert.Goals as goal

pub convert-convert_rows-requires : goal.convert-convert_rows-requires
convert-convert_rows-requires t c =
    let seen = ap (λ v. datum_weight (literal_of v)) c.in-View-V.is-0 in
    (omega (arith, seen, relation_weight-relation_of c.in-View-V.rows), rw (c.in-View-V.is-0, c.in-View-V.is-1) at c.requires)

pub convert-returns-in_ok-convert_rows-in-View-V : goal.convert-returns-in_ok-convert_rows-in-View-V
convert-returns-in_ok-convert_rows-in-View-V t c =
    rw (c.in-View-V.is-0, c.in-View-V.is-1)
    (ap (λ r. Datum.relation (relation_of r)) c.in_ok-convert_rows-in-View-V.ensures
    ∙ ap Datum.relation (relation_of-rows_of (rows_become (relation_of c.in-View-V.rows) (heading_of c.in-View-V.schema))))

pub convert_cell-convert-requires : goal.convert_cell-convert-requires
convert_cell-convert-requires t c =
    let inside = length-map c.args.literals.now literal_of in
    let at = map_read literal_of _ _ _ c.if-at-literals.true c.index-literals-at.is in (
      omega (arith, row_weight_read (map literal_of c.args.literals.now) c.args.at (literal_of c.index-literals-at.result) (omega arith) at),
      rw (slice_map_read literal_of _ _ _ c.if-at-literals.true c.index-literals-at.is) at c.requires,
    )

pub convert_cell-returns-then-at-literals : goal.convert_cell-returns-then-at-literals
convert_cell-returns-then-at-literals t c =
    rw (slice_map_read literal_of _ _ _ c.if-at-literals.true c.index-literals-at.is) c.convert.ensures

pub convert_cell-returns-else-at-literals : goal.convert_cell-returns-else-at-literals
convert_cell-returns-else-at-literals t c =
    rw (slice_map_past literal_of c.args.literals.now c.args.at c.if-at-literals.false) c.default_of.ensures

pub convert_row-convert_cell-requires : goal.convert_row-convert_cell-requires
convert_row-convert_cell-requires t c =
    let row = ap row_weight c.as_slice-literals.ensures in
    let next = drop_read _ _ _ c.loop-at-test.true c.index-props-at.is in
    let fits = cell_fits (map literal_of c.as_slice-literals.result.now) c.as_slice-props.result.now c.loop-at.at c.index-props-at.result next c.loop-at.invariant.1 in (
      omega (arith, row),
      subst (λ (a : Attribute). CellFits (slice_get (map literal_of c.as_slice-literals.result.now) c.loop-at.at) a.domain) (sym c.prop.view_is) fits.0,
    )

pub convert_row-loop-at-preserved : goal.convert_row-loop-at-preserved
convert_row-loop-at-preserved t c =
    let next = drop_read _ _ _ c.loop-at-test.true c.index-props-at.is in
    let fits = cell_fits (map literal_of c.as_slice-literals.result.now) c.as_slice-props.result.now c.loop-at.at c.index-props-at.result next c.loop-at.invariant.1 in
    let e = c.in_ok-convert_cell.ensures in
    let k = ap (λ (a : Attribute). cell_becomes (slice_get (map literal_of c.as_slice-literals.result.now) c.loop-at.at) a.domain) c.prop.view_is in (
      rw c.in_ok-push.ensures.ok (row_converted_more _ (map literal_of c.as_slice-literals.result.now) c.as_slice-props.result.now c.loop-at.at c.index-props-at.result _ _ next (e ∙ k) c.loop-at.invariant.0),
      fits.1,
    )

pub convert_rows-convert_row-requires : goal.convert_rows-convert_row-requires
convert_rows-convert_row-requires t c =
    let whole = ap rows_weight c.as_slice-row-items.ensures in
    let next = drop_read _ _ _ c.loop-row-test.true c.row-item.is in
    let fits = rw next at c.loop-row.invariant.1 in
    (omega (arith, whole, rows_weight_read _ _ _ c.loop-row-test.true c.row-item.is), fits.0)
