use Rattle.std.proofs.Common.{◌≡◌, map, length, ap, arith, sym, subst, true, false}
use Rattle.std.proofs.lemmas.List.{length-map}
use Rattle.mk_value.specs.Heading.{Attribute}
use Rattle.mk_value.specs.Data.{datum_weight, row_weight, rows_weight, IsOf}
use Rattle.mk_value.specs.Values.{datum_of}
use Rattle.mk_value.proofs.Relations.{IsOf-relation, row_fits_more, row_fits_no, rows_fit_more, row_fits_length, relation_weight-relation_of, row_weight_read, rows_weight_read}
use Rattle.mk_value.proofs.Walks.{drop_read, drop_map_read, map_read}
use Rattle.mk_value.proofs.fitting.+fits.Goals as goal

pub fits-rows_fit-requires : goal.fits-rows_fit-requires
fits-rows_fit-requires t c =
    let seen = ap (λ v. datum_weight (datum_of v)) c.in-V-V.is-0 in
    (omega (arith, seen, relation_weight-relation_of c.in-V-V.rows), tt)

pub fits-returns-in-V-V : goal.fits-returns-in-V-V
fits-returns-in-V-V t c =
    let inside = IsOf-relation c.in-V-V.rows c.in-V-V.schema in
    rw (c.in-V-V.is-0, c.in-V-V.is-1) (λ h. inside.0 (c.rows_fit.ensures.0 h), λ h. c.rows_fit.ensures.1 (inside.1 h))

pub row_fits-returns-then-values-props : goal.row_fits-returns-then-values-props
row_fits-returns-then-values-props t c = (
  λ h. absurd (let e : false ≡ true = h in cc),
  λ h. absurd (
      let e = row_fits_length _ _ h in
      let row = ap length c.as_slice-values.ensures in
      let schema = ap length c.as_slice-props.ensures.value in
      omega (arith, e, row, schema, length-map c.as_slice-values.result.now datum_of)),
)

pub row_fits-fits-requires : goal.row_fits-fits-requires
row_fits-fits-requires t c =
    let row = ap row_weight c.as_slice-values.ensures in
    let inside = length-map c.as_slice-values.result.now datum_of in
    let at = map_read datum_of _ _ _ c.loop-at-test.true c.index-values-at.is in
    (omega (arith, row, row_weight_read (map datum_of c.as_slice-values.result.now) c.loop-at.at (datum_of c.index-values-at.result) (omega arith) at), tt)

pub row_fits-loop-at-preserved : goal.row_fits-loop-at-preserved
row_fits-loop-at-preserved t c =
    let fits = c.fits.ensures.0 c.if-not-fits.false in
    row_fits_more _ _ _ (datum_of c.index-values-at.result) c.index-props-at.result
    (drop_map_read datum_of _ _ _ c.loop-at-test.true c.index-values-at.is)
    (drop_read c.as_slice-props.result.now c.loop-at.at _ (omega arith) c.index-props-at.is)
    (subst (λ (a : Attribute). IsOf (datum_of c.index-values-at.result) a.domain) c.prop.view_is fits)
    c.loop-at.invariant

pub row_fits-returns-then-not-fits : goal.row_fits-returns-then-not-fits
row_fits-returns-then-not-fits t c = (
  λ h. absurd (let e : false ≡ true = h in cc),
  λ h. absurd (row_fits_no _ _ _ (datum_of c.index-values-at.result) c.index-props-at.result
      (drop_map_read datum_of _ _ _ c.loop-at-test.true c.index-values-at.is)
      (drop_read c.as_slice-props.result.now c.loop-at.at _ (omega arith) c.index-props-at.is)
      (λ fits. let yes = c.fits.ensures.1 (subst (λ (a : Attribute). IsOf (datum_of c.index-values-at.result) a.domain) (sym c.prop.view_is) fits) in
      let no = c.if-not-fits.true in cc)
      c.loop-at.invariant
      (rw (c.as_slice-values.ensures, c.as_slice-props.ensures.value) h)),
)

pub rows_fit-row_fits-requires : goal.rows_fit-row_fits-requires
rows_fit-row_fits-requires t c =
    let whole = ap rows_weight c.as_slice-rows.ensures in
    (omega (arith, whole, rows_weight_read _ _ _ c.loop-row-test.true c.row-item.is), tt)

pub rows_fit-loop-row-preserved : goal.rows_fit-loop-row-preserved
rows_fit-loop-row-preserved t c =
    rows_fit_more _ _ _ c.row-item.result (drop_read _ _ _ c.loop-row-test.true c.row-item.is)
    (c.row_fits.ensures.0 c.if-not-row_fits.false) c.loop-row.invariant
