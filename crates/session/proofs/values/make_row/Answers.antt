use Rattle.std.proofs.Common.{◌≡◌, ◌+◌, ◌<◌, length, map, get_or, true, ap, sym, subst, ◌∙◌, arith, rules}
use Rattle.std.proofs.lemmas.List.{length-map}
use Rattle.cmd_text.specs.declared.refusal.Refusal.TheVariants.{Limit}
use Rattle.mk_value.specs.Conversions.{IsProper, becomes}
use Rattle.mk_value.specs.Data.{IsOf}
use Rattle.mk_value.specs.Heading.{Attribute}
use Rattle.mk_value.specs.LiteralValues.{literal_of}
use Rattle.mk_value.specs.Values.{datum_of}
use Rattle.mk_value.proofs.Walks.{drop_read, drop_map_read, map_read}
use Rattle.view_store.specs.Fitting.{are_of}
use Rattle.session.specs.Fitting.{fits, is_short}
use Rattle.session.specs.Values.{values_for}
use Rattle.session.proofs.Fitted.{SoFar, unless_none, next_fits, so_far_next, so_far_values, so_far_whole, refused_next}
use Rattle.session.proofs.values.make_row.Goals as goal

pub make_value-requires-clause-fit : goal.make_value-requires-clause-fit
make_value-requires-clause-fit c =
    let count = length-map c.as_slice-values.result.now literal_of in
    let within : c.loop-at.at < length c.as_slice-props.result.now =
    let values = ap length c.as_slice-values.ensures in
    let properties = ap length c.as_slice-props.ensures.value in
    let few = c.requires.few in
    let test = c.loop-at-test.true in omega (arith, values, properties, few, test, count) in
    ap (λ (a : Attribute). fits (literal_of c.index-values-at.result) a.domain) c.prop.view_is
    ∙ next_fits (map literal_of c.as_slice-values.result.now) c.as_slice-props.result.now c.loop-at.row c.loop-at.at (literal_of c.index-values-at.result) c.index-props-at.result
    (drop_map_read literal_of _ _ _ c.loop-at-test.true c.index-values-at.is) (drop_read _ _ _ within c.index-props-at.is) c.loop-at.invariant

pub make_value-requires-clause-proper : goal.make_value-requires-clause-proper
make_value-requires-clause-proper c =
    let x = literal_of c.index-values-at.result in
    let count = length-map c.as_slice-values.result.now literal_of in
    let test = c.loop-at-test.true in
    subst IsProper (ap (λ ds. get_or ds c.loop-at.at x) (sym c.as_slice-values.ensures) ∙ sym (map_read literal_of _ _ _ c.loop-at-test.true c.index-values-at.is))
    (c.requires.proper c.loop-at.at x (let same = ap length c.as_slice-values.ensures in omega (arith, same, count, test)))

pub returns-in_err-value-clause-due : goal.returns-in_err-value-clause-due
returns-in_err-value-clause-due c =
    let due = refused_next (map literal_of c.as_slice-values.result.now) c.as_slice-props.result.now c.loop-at.row c.loop-at.at (literal_of c.index-values-at.result) _
    (drop_map_read literal_of _ _ _ c.loop-at-test.true c.index-values-at.is) c.loop-at.invariant c.in_err-value.ensures.due in
    let same = c.as_slice-values.ensures in
    let here = rw same at due in
    search rules

pub loop-at-preserved : goal.loop-at-preserved
loop-at-preserved c =
    let count = length-map c.as_slice-values.result.now literal_of in
    let within : c.loop-at.at < length c.as_slice-props.result.now =
    let values = ap length c.as_slice-values.ensures in
    let properties = ap length c.as_slice-props.ensures.value in
    let few = c.requires.few in
    let test = c.loop-at-test.true in omega (arith, values, properties, few, test, count) in
    let x = literal_of c.index-values-at.result in
    let d = datum_of c.in_ok-value.value in
    let next = so_far_next (map literal_of c.as_slice-values.result.now) c.as_slice-props.result.now c.loop-at.row c.loop-at.at x c.index-props-at.result d
    (drop_map_read literal_of _ _ _ c.loop-at-test.true c.index-values-at.is) (drop_read _ _ _ within c.index-props-at.is)
    (c.in_ok-value.ensures.value ∙ ap (λ (a : Attribute). becomes x a.domain) c.prop.view_is)
    (subst (λ (a : Attribute). IsOf d a.domain) c.prop.view_is c.in_ok-value.ensures.whole)
    (unless_none (is_short x) Limit c.in_ok-value.ensures.due) c.loop-at.invariant in
    subst (λ row. SoFar (map literal_of c.as_slice-values.result.now) c.as_slice-props.result.now row (c.loop-at.at + 1)) (sym c.in_ok-append.ensures.ok) next

pub returns-clause-value : goal.returns-clause-value
returns-clause-value c =
    let count = length-map c.as_slice-values.result.now literal_of in
    let test = c.loop-at-test.false in
    so_far_values (map literal_of c.as_slice-values.result.now) c.as_slice-props.result.now c.loop-at.row c.loop-at.at (omega (arith, count, test)) c.loop-at.invariant
    ∙ ap (λ s. values_for s (map literal_of c.as_slice-values.result.now)) c.as_slice-props.ensures.value
    ∙ ap (λ ds. values_for c.args.schema.now ds) c.as_slice-values.ensures

pub returns-clause-whole : goal.returns-clause-whole
returns-clause-whole c =
    subst (λ s. are_of c.loop-at.row s ≡ true) c.as_slice-props.ensures.value
    (so_far_whole (map literal_of c.as_slice-values.result.now) c.as_slice-props.result.now c.loop-at.row c.loop-at.at c.loop-at.invariant)
