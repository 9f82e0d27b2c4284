use Rattle.std.proofs.Common.{ap, arith, ◌∙◌, sym}
use Rattle.mk_value.specs.Heading.{domain_weight, attributes_weight, heading_of, relation}
use Rattle.mk_value.specs.Kinds.{domain_of}
use Rattle.mk_value.proofs.Headings.{heading_weight-heading_of, weight_read, same_relation}
use Rattle.mk_value.proofs.schema.+is_same.Goals as goal

pub Kind::is_same-is_same-requires : goal.Kind::is_same-is_same-requires
Kind::is_same-is_same-requires t c =
    let seen = ap (λ k. domain_weight (domain_of k)) c.in-V-V.is-0 in
    (omega (arith, seen, heading_weight-heading_of c.in-V-V.one), tt)

pub Kind::is_same-returns-in-V-V : goal.Kind::is_same-returns-in-V-V
Kind::is_same-returns-in-V-V t c =
    let one = ap domain_of c.in-V-V.is-0 in
    let two = ap domain_of c.in-V-V.is-1 in (
      λ h. one ∙ ap (λ p. relation (heading_of p)) (c.is_same.ensures.0 h) ∙ sym two,
      λ h. c.is_same.ensures.1 (same_relation _ _ _ _ one two h),
    )

pub Schema::is_same-is_same-requires : goal.Schema::is_same-is_same-requires
Schema::is_same-is_same-requires t c =
    let whole = ap attributes_weight c.as_slice-ones.ensures.value in
    (omega (arith, whole, weight_read _ _ _ c.loop-at-test.true c.index-ones-at.is), tt)
