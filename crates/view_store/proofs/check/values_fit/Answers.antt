use Rattle.std.proofs.Common.{◌≡◌, ◌+◌, ◌&&◌, false, length, map, drop, ap, sym, ◌∙◌, arith}
use Rattle.std.proofs.lemmas.List.{length-map}
use Rattle.mk_value.specs.Heading.{Attribute}
use Rattle.mk_value.specs.Kinds.{domain_of}
use Rattle.mk_value.specs.Values.{datum_of}
use Rattle.mk_value.proofs.Walks.{drop_read, drop_map_read}
use Rattle.view_store.specs.Fitting.{is_of, are_of}
use Rattle.view_store.proofs.Fitting.{fits_is, are_of-more}
use Rattle.view_store.proofs.check.values_fit.Goals as goal

pub returns-then-not-fits : goal.returns-then-not-fits
returns-then-not-fits c =
    let values = ap length c.as_slice-values.ensures in
    let properties = ap length c.as_slice-props.ensures.value in
    let long = length-map c.as_slice-values.result.now datum_of in
    let rest = are_of (drop (c.loop-at.at + 1) (map datum_of c.as_slice-values.result.now)) (drop (c.loop-at.at + 1) c.as_slice-props.result.now) in
    let more = are_of-more _ _ c.loop-at.at (datum_of c.index-values-at.result) c.index-props-at.result
    (drop_map_read datum_of _ _ _ c.loop-at-test.true c.index-values-at.is) (drop_read c.as_slice-props.result.now c.loop-at.at _ (omega arith) c.index-props-at.is) in
    let no : is_of (datum_of c.index-values-at.result) c.index-props-at.result.domain ≡ false =
    sym (ap (λ (a : Attribute). is_of (datum_of c.index-values-at.result) a.domain) c.prop.view_is)
    ∙ sym (fits_is c.fits.result (datum_of c.index-values-at.result) (domain_of c.prop.inside.kind) c.fits.ensures) ∙ c.if-not-fits.true in
    sym (ap (λ ds. are_of ds c.args.schema.now) (sym c.as_slice-values.ensures) ∙ ap (λ s. are_of (map datum_of c.as_slice-values.result.now) s) (sym c.as_slice-props.ensures.value)
    ∙ c.loop-at.invariant ∙ more ∙ ap (λ b. b && rest) no)

pub loop-at-preserved : goal.loop-at-preserved
loop-at-preserved c =
    let values = ap length c.as_slice-values.ensures in
    let properties = ap length c.as_slice-props.ensures.value in
    let long = length-map c.as_slice-values.result.now datum_of in
    let rest = are_of (drop (c.loop-at.at + 1) (map datum_of c.as_slice-values.result.now)) (drop (c.loop-at.at + 1) c.as_slice-props.result.now) in
    let more = are_of-more _ _ c.loop-at.at (datum_of c.index-values-at.result) c.index-props-at.result
    (drop_map_read datum_of _ _ _ c.loop-at-test.true c.index-values-at.is) (drop_read c.as_slice-props.result.now c.loop-at.at _ (omega arith) c.index-props-at.is) in
    let yes =
    sym (ap (λ (a : Attribute). is_of (datum_of c.index-values-at.result) a.domain) c.prop.view_is)
    ∙ sym (fits_is c.fits.result (datum_of c.index-values-at.result) (domain_of c.prop.inside.kind) c.fits.ensures) ∙ c.if-not-fits.false in
    c.loop-at.invariant ∙ more ∙ ap (λ b. b && rest) yes
