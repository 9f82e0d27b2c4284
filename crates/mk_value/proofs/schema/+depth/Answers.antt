use Rattle.std.proofs.Common.{ap, arith}
use Rattle.mk_value.specs.Heading.{Attribute, domain_weight}
use Rattle.mk_value.specs.Kinds.{domain_of}
use Rattle.mk_value.proofs.Headings.{heading_weight-heading_of, weight_read}
use Rattle.mk_value.proofs.schema.+depth.Goals as goal

pub Kind::depth-depth-requires : goal.Kind::depth-depth-requires
Kind::depth-depth-requires t c =
    let seen = ap (λ k. domain_weight (domain_of k)) c.in-V.is in
    (omega (arith, seen, heading_weight-heading_of c.in-V.schema), tt)

pub depth_inside-depth-requires : goal.depth_inside-depth-requires
depth_inside-depth-requires t c =
    let kind = ap (λ (a : Attribute). domain_weight a.domain) c.prop.view_is in
    (omega (arith, kind, weight_read c.args.props.now c.loop-prop.prop-index c.prop-item.result c.loop-prop-test.true c.prop-item.is), tt)
