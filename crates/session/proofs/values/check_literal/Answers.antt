use Rattle.std.proofs.Common.{◌≡◌, Some, ap, sym, ◌∙◌, get_or}
use Rattle.cmd_text.specs.declared.refusal.Refusal.TheVariants.{Kind}
use Rattle.mk_value.specs.Heading.{Attribute, find}
use Rattle.mk_value.specs.Kinds.{domain_of}
use Rattle.mk_value.specs.LiteralValues.{literal_of}
use Rattle.view_store.proofs.Walking.{domain_read, place_within}
use Rattle.session.specs.Refusals.{unless}
use Rattle.session.proofs.Fitted.{literal_refusal-found}
use Rattle.session.proofs.values.check_literal.Goals as goal

pub returns-then-not-literal_fits : goal.returns-then-not-literal_fits
returns-then-not-literal_fits c =
    let schema = c.args.schema.now in
    let found : find schema c.args.prop.now ≡ Some c.in-Some.at = ap (λ n. find schema n) (sym c.as_str.ensures.value) ∙ sym c.find.ensures ∙ c.in-Some.is in
    let read = c.index-as_slice-at.is ∙ ap (λ s. get_or s c.in-Some.at c.index-as_slice-at.result) c.as_slice.ensures.value in
    let view = domain_read schema c.in-Some.at c.index-as_slice-at.result (domain_of c.prop.inside.kind) (place_within schema c.args.prop.now c.in-Some.at found) read (ap (λ (a : Attribute). a.domain) c.prop.view_is) in
    sym (literal_refusal-found schema c.args.prop.now c.in-Some.at (literal_of c.args.literal.now) _ c.literal_fits.result found view c.literal_fits.ensures ∙ ap (λ b. unless b Kind) c.if-not-literal_fits.true)

pub returns : goal.returns
returns c =
    let schema = c.args.schema.now in
    let found : find schema c.args.prop.now ≡ Some c.in-Some.at = ap (λ n. find schema n) (sym c.as_str.ensures.value) ∙ sym c.find.ensures ∙ c.in-Some.is in
    let read = c.index-as_slice-at.is ∙ ap (λ s. get_or s c.in-Some.at c.index-as_slice-at.result) c.as_slice.ensures.value in
    let view = domain_read schema c.in-Some.at c.index-as_slice-at.result (domain_of c.prop.inside.kind) (place_within schema c.args.prop.now c.in-Some.at found) read (ap (λ (a : Attribute). a.domain) c.prop.view_is) in
    sym (literal_refusal-found schema c.args.prop.now c.in-Some.at (literal_of c.args.literal.now) _ c.literal_fits.result found view c.literal_fits.ensures ∙ ap (λ b. unless b Kind) c.if-not-literal_fits.false)
