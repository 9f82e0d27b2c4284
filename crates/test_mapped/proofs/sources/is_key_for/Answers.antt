use Rattle.std.proofs.Common.{◌≡◌, ◌<◌, ◌+◌, ℕ, List, [], length, get_or, map, pos, ap, sym, subst, ◌∙◌, arith, inl, inr}
use Rattle.std.specs.Bool.{IsTrue}
use Rattle.std.proofs.lemmas.Bool.{cases_lt}
use Rattle.std.proofs.lemmas.List.{length-map, get_or-map, get_or_default}
use Rattle.mk_value.specs.Data.{Datum, integer}
use Rattle.mk_value.specs.Heading.{Attribute, Domain}
use Rattle.mk_value.specs.Tables.{IsComparable, domain_at}
use Rattle.mk_value.specs.Kinds.{domain_of}
use Rattle.mk_value.specs.Values.{datum_of}
use Rattle.test_mapped.proofs.sources.is_key_for.Goals as goal

pub loop-at-preserved : goal.loop-at-preserved
loop-at-preserved c i p =
    let at : ℕ = c.loop-at.at in
    let t = c.loop-at-test.true in
    let key = c.args.key.now in
    let schema = c.args.schema.now in
    let values = c.as_slice-values.result.now in
    let blank : Attribute = record { name = []; domain = Domain.integer } in
    let few = c.if-values-len.false in
    let wide = c.len.ensures.value in
    let there : at < length schema = omega arith in
    let value : datum_of c.index-values-at.result ≡ get_or key at (integer (pos 0)) =
    ap datum_of c.index-values-at.is ∙ sym (get_or-map datum_of values at c.index-values-at.result (integer (pos 0)) t) ∙ ap (λ (ks : List Datum). get_or ks at (integer (pos 0))) c.as_slice-values.ensures in
    let prop : c.index-as_slice-at.result ≡ get_or schema at blank =
    c.index-as_slice-at.is ∙ ap (λ (s : List Attribute). get_or s at c.index-as_slice-at.result) c.as_slice.ensures.value ∙ get_or_default schema at c.index-as_slice-at.result blank there in
    let domain = ap (λ (a : Attribute). a.domain) (c.prop.view_is ∙ prop) in
    let here : IsComparable (get_or key at (integer (pos 0))) (domain_at schema at) =
    subst (λ e. IsComparable (get_or key at (integer (pos 0))) e) domain (subst (λ d. IsComparable d (domain_of c.prop.inside.kind)) value (c.is_comparable.ensures c.if-not-is_comparable.false)) in
    elim (cases_lt i at) [
      | inl before ↦ c.loop-at.invariant i before
      | inr past ↦ subst (λ k. IsComparable (get_or key k (integer (pos 0))) (domain_at schema k)) (let same : at ≡ i = omega arith in same) here
    ]

pub returns : goal.returns
returns c _ =
    let long : length c.args.key.now ≡ length c.as_slice-values.result.now = ap length (sym c.as_slice-values.ensures) ∙ length-map c.as_slice-values.result.now datum_of in
    let few = c.if-values-len.false in
    let wide = c.len.ensures.value in
    let last = c.loop-at-test.false in
    record { few = omega arith; comparable = λ i p. c.loop-at.invariant i (omega arith) }
