use Rattle.std.proofs.Common.{◌≡◌, ◌<◌, map, length, ap, arith, sym, subst, true, false}
use Rattle.std.proofs.lemmas.List.{length-map}
use Rattle.mk_value.specs.Heading.{Attribute}
use Rattle.mk_value.specs.Data.{datum_weight, row_weight, rows_weight}
use Rattle.mk_value.specs.Conversions.{LiteralFits}
use Rattle.mk_value.specs.LiteralValues.{literal_of}
use Rattle.mk_value.proofs.Relations.{relation_weight-relation_of, row_weight_read, rows_weight_read}
use Rattle.mk_value.proofs.Converting.{row_fits_more, row_fits_no, row_fits_length}
use Rattle.mk_value.proofs.Walks.{drop_read, drop_map_read, map_read}
use Rattle.mk_value.proofs.conversion.+literal_fits.Goals as goal

pub literal_fits-literal_rows_fit-requires : goal.literal_fits-literal_rows_fit-requires
literal_fits-literal_rows_fit-requires t c =
    let seen = ap (λ v. datum_weight (literal_of v)) c.in-View-V.is-0 in
    (omega (arith, seen, relation_weight-relation_of c.in-View-V.rows), tt)

pub literal_row_fits-returns-then-literals-props : goal.literal_row_fits-returns-then-literals-props
literal_row_fits-returns-then-literals-props t c = (
  λ h. absurd (let e : false ≡ true = h in cc),
  λ h. absurd (
      let few = row_fits_length _ _ h in
      let row = ap length c.as_slice-literals.ensures in
      let schema = ap length c.as_slice-props.ensures.value in
      omega (arith, few, row, schema, length-map c.as_slice-literals.result.now literal_of)),
)

pub literal_row_fits-literal_fits-requires : goal.literal_row_fits-literal_fits-requires
literal_row_fits-literal_fits-requires t c =
    let row = ap row_weight c.as_slice-literals.ensures in
    let inside = length-map c.as_slice-literals.result.now literal_of in
    let at = map_read literal_of _ _ _ c.loop-at-test.true c.index-literals-at.is in
    (omega (arith, row, row_weight_read (map literal_of c.as_slice-literals.result.now) c.loop-at.at (literal_of c.index-literals-at.result) (omega arith) at), tt)

pub literal_row_fits-loop-at-preserved : goal.literal_row_fits-loop-at-preserved
literal_row_fits-loop-at-preserved t c =
    let fits = c.literal_fits.ensures.0 c.if-not-literal_fits.false in
    let within : c.loop-at.at < length c.as_slice-props.result.now = omega arith in
    row_fits_more _ _ _ (literal_of c.index-literals-at.result) c.index-props-at.result
    (drop_map_read literal_of _ _ _ c.loop-at-test.true c.index-literals-at.is)
    (drop_read _ _ _ within c.index-props-at.is)
    (subst (λ (a : Attribute). LiteralFits (literal_of c.index-literals-at.result) a.domain) c.prop.view_is fits)
    c.loop-at.invariant

pub literal_row_fits-returns-then-not-literal_fits : goal.literal_row_fits-returns-then-not-literal_fits
literal_row_fits-returns-then-not-literal_fits t c =
    let within : c.loop-at.at < length c.as_slice-props.result.now = omega arith in (
      λ h. absurd (let e : false ≡ true = h in cc),
      λ h. absurd (row_fits_no _ _ _ (literal_of c.index-literals-at.result) c.index-props-at.result
          (drop_map_read literal_of _ _ _ c.loop-at-test.true c.index-literals-at.is)
          (drop_read _ _ _ within c.index-props-at.is)
          (λ fits. let yes = c.literal_fits.ensures.1 (subst (λ (a : Attribute). LiteralFits (literal_of c.index-literals-at.result) a.domain) (sym c.prop.view_is) fits) in
          let no = c.if-not-literal_fits.true in cc)
          c.loop-at.invariant
          (rw (c.as_slice-literals.ensures, c.as_slice-props.ensures.value) h)),
    )

pub literal_rows_fit-literal_row_fits-requires : goal.literal_rows_fit-literal_row_fits-requires
literal_rows_fit-literal_row_fits-requires t c =
    let whole = ap rows_weight c.as_slice-row-items.ensures in
    (omega (arith, whole, rows_weight_read _ _ _ c.loop-row-test.true c.row-item.is), tt)
