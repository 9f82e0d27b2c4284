use Rattle.std.proofs.Common.{◌≡◌, Some, ap, sym, ◌∙◌, get_or}
use Rattle.mk_value.specs.Heading.{Domain, Attribute, find, heading_of}
use Rattle.mk_value.specs.Kinds.{domain_of}
use Rattle.mk_value.specs.Tables.{domain_at}
use Rattle.eval.specs.Names.{schema_at}
use Rattle.view_store.proofs.Walking.{domain_read, place_within}
use Rattle.questions.proofs.Steps.{one_step, same_answer}
use Rattle.questions.proofs.walk.+inner_schema.Goals as goal

pub returns-in-V : goal.returns-in-V
returns-in-V t c =
    let schema = c.args.schema.now in
    let step = c.in-Some.step.now in
    let col = c.in-Some-find.col in
    let found : find schema step.prop ≡ Some col = ap (λ n. find schema n) (sym c.as_str.ensures.value) ∙ sym c.find.ensures ∙ c.in-Some-find.is in
    let read = c.index-as_slice-col.is ∙ ap (λ s. get_or s col c.index-as_slice-col.result) c.as_slice.ensures.value in
    let view : domain_at schema col ≡ Domain.relation (heading_of c.in-V.inner) =
    domain_read schema col c.index-as_slice-col.result (domain_of c.prop.inside.kind) (place_within schema step.prop col found) read
    (ap (λ (a : Attribute). a.domain) c.prop.view_is) ∙ ap domain_of c.in-V.is in
    same_answer c.inner_schema.result (λ s. s.now) _ _
    (ap (λ ss. schema_at ss schema) c.in-Some.ensures.cases.0 ∙ one_step step c.in-Some.rest.now schema c.in-V.inner col found view)
    c.inner_schema.ensures
