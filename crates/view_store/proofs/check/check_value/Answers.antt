use Rattle.std.proofs.Common.{◌≡◌, Some, None, ap, sym, ◌∙◌, get_or, cond}
use Rattle.mk_value.specs.Heading.{Attribute, find}
use Rattle.mk_value.specs.Kinds.{domain_of}
use Rattle.mk_value.specs.Values.{datum_of}
use Rattle.view_store.specs.declared.error.EditError.TheVariants.{WrongKind}
use Rattle.view_store.proofs.Fitting.{value_refusal-found}
use Rattle.view_store.proofs.Walking.{domain_read, place_within}
use Rattle.view_store.proofs.check.check_value.Goals as goal

pub returns-then-not-fits : goal.returns-then-not-fits
returns-then-not-fits c =
    let schema = c.args.schema.now in
    let found : find schema c.args.prop.now ≡ Some c.in-Some.col = ap (λ n. find schema n) (sym c.as_str.ensures.value) ∙ sym c.find.ensures ∙ c.in-Some.is in
    let read = c.index-as_slice-col.is ∙ ap (λ s. get_or s c.in-Some.col c.index-as_slice-col.result) c.as_slice.ensures.value in
    let view = domain_read schema c.in-Some.col c.index-as_slice-col.result (domain_of c.prop.inside.kind) (place_within schema c.args.prop.now c.in-Some.col found) read (ap (λ (a : Attribute). a.domain) c.prop.view_is) in
    sym (value_refusal-found schema c.args.prop.now c.in-Some.col (datum_of c.args.value.now) _ c.fits.result found view c.fits.ensures ∙ ap (λ b. cond b None (Some WrongKind)) c.if-not-fits.true)

pub returns : goal.returns
returns c =
    let schema = c.args.schema.now in
    let found : find schema c.args.prop.now ≡ Some c.in-Some.col = ap (λ n. find schema n) (sym c.as_str.ensures.value) ∙ sym c.find.ensures ∙ c.in-Some.is in
    let read = c.index-as_slice-col.is ∙ ap (λ s. get_or s c.in-Some.col c.index-as_slice-col.result) c.as_slice.ensures.value in
    let view = domain_read schema c.in-Some.col c.index-as_slice-col.result (domain_of c.prop.inside.kind) (place_within schema c.args.prop.now c.in-Some.col found) read (ap (λ (a : Attribute). a.domain) c.prop.view_is) in
    sym (value_refusal-found schema c.args.prop.now c.in-Some.col (datum_of c.args.value.now) _ c.fits.result found view c.fits.ensures ∙ ap (λ b. cond b None (Some WrongKind)) c.if-not-fits.false)
