use Rattle.std.proofs.Common.{◌≡◌, ◌+◌, ◌&&◌, false, length, map, drop, ap, sym, ◌∙◌, arith}
use Rattle.std.proofs.lemmas.List.{length-map}
use Rattle.mk_value.specs.Heading.{Attribute}
use Rattle.mk_value.specs.Kinds.{domain_of}
use Rattle.mk_value.specs.LiteralValues.{literal_of}
use Rattle.mk_value.proofs.Walks.{drop_read, drop_map_read}
use Rattle.session.specs.Fitting.{fits, all_fit}
use Rattle.session.proofs.Fitted.{fits_is, all_fit-more}
use Rattle.session.proofs.values.literals_fit.Goals as goal

pub returns-then-not-literal_fits : goal.returns-then-not-literal_fits
returns-then-not-literal_fits c =
    let values = ap length c.as_slice-values.ensures in
    let properties = ap length c.as_slice-props.ensures.value in
    let long = length-map c.as_slice-values.result.now literal_of in
    let literal = literal_of c.index-values-at.result in
    let rest = all_fit (drop (c.loop-at.at + 1) (map literal_of c.as_slice-values.result.now)) (drop (c.loop-at.at + 1) c.as_slice-props.result.now) in
    let more = all_fit-more _ _ c.loop-at.at literal c.index-props-at.result
    (drop_map_read literal_of _ _ _ c.loop-at-test.true c.index-values-at.is) (drop_read c.as_slice-props.result.now c.loop-at.at _ (omega arith) c.index-props-at.is) in
    let no : fits literal c.index-props-at.result.domain ≡ false =
    sym (ap (λ (a : Attribute). fits literal a.domain) c.prop.view_is)
    ∙ sym (fits_is c.literal_fits.result literal (domain_of c.prop.inside.kind) c.literal_fits.ensures) ∙ c.if-not-literal_fits.true in
    sym (ap (λ ds. all_fit ds c.args.schema.now) (sym c.as_slice-values.ensures) ∙ ap (λ s. all_fit (map literal_of c.as_slice-values.result.now) s) (sym c.as_slice-props.ensures.value)
    ∙ c.loop-at.invariant ∙ more ∙ ap (λ b. b && rest) no)

pub loop-at-preserved : goal.loop-at-preserved
loop-at-preserved c =
    let values = ap length c.as_slice-values.ensures in
    let properties = ap length c.as_slice-props.ensures.value in
    let long = length-map c.as_slice-values.result.now literal_of in
    let literal = literal_of c.index-values-at.result in
    let rest = all_fit (drop (c.loop-at.at + 1) (map literal_of c.as_slice-values.result.now)) (drop (c.loop-at.at + 1) c.as_slice-props.result.now) in
    let more = all_fit-more _ _ c.loop-at.at literal c.index-props-at.result
    (drop_map_read literal_of _ _ _ c.loop-at-test.true c.index-values-at.is) (drop_read c.as_slice-props.result.now c.loop-at.at _ (omega arith) c.index-props-at.is) in
    let yes =
    sym (ap (λ (a : Attribute). fits literal a.domain) c.prop.view_is)
    ∙ sym (fits_is c.literal_fits.result literal (domain_of c.prop.inside.kind) c.literal_fits.ensures) ∙ c.if-not-literal_fits.false in
    c.loop-at.invariant ∙ more ∙ ap (λ b. b && rest) yes
