use Rattle.std.proofs.Common.{length, ap, arith}
use Rattle.mk_value.specs.Heading.{Attribute}
use Rattle.mk_value.specs.Kinds.{domain_of}
use Rattle.tables.proofs.Homed.{count_fits, count_next}
use Rattle.tables.proofs.pool.blocks_of_schema.Goals as goal

pub overflow_add-count : goal.overflow_add-count
overflow_add-count c =
    let kind = ap (λ (a : Attribute). a.domain) c.prop.view_is in
    let items = c.as_slice-prop-items.result.now in
    let few = c.as_slice-prop-items.ensures.whole.limits in
    omega (
      arith,
      few,
      ap length c.as_slice-prop-items.ensures.value,
      count_fits items c.loop-prop.prop-index c.prop-item.result (domain_of c.prop.inside.kind) c.loop-prop.count c.blocks_of_kind-count.result c.loop-prop-test.true c.prop-item.is kind c.loop-prop.invariant c.blocks_of_kind-count.ensures,
    )

pub loop-prop-preserved : goal.loop-prop-preserved
loop-prop-preserved c =
    let kind = ap (λ (a : Attribute). a.domain) c.prop.view_is in
    count_next c.as_slice-prop-items.result.now c.loop-prop.prop-index c.prop-item.result (domain_of c.prop.inside.kind) c.loop-prop.count c.blocks_of_kind-count.result c.loop-prop-test.true c.prop-item.is kind c.loop-prop.invariant c.blocks_of_kind-count.ensures
