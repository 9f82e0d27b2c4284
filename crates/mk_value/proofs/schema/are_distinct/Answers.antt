use Rattle.std.proofs.Common.{ap}
use Rattle.mk_value.specs.Heading.{Attribute}
use Rattle.mk_value.proofs.Headings.{distinct_more, distinct_no}
use Rattle.mk_value.proofs.schema.are_distinct.Goals as goal

pub loop-at-preserved : goal.loop-at-preserved
loop-at-preserved c =
    distinct_more _ _ c.index-props-at.result _ _ c.loop-at-test.true c.index-props-at.is (ap (λ (a : Attribute). a.name) c.prop.view_is)
    c.has_name.ensures c.if-has_name.false c.loop-at.invariant

pub returns-then-has_name : goal.returns-then-has_name
returns-then-has_name c = (
  λ h. absurd (let e = h in cc),
  λ distinct. absurd (distinct_no _ _ c.index-props-at.result _ _ c.loop-at-test.true c.index-props-at.is (ap (λ (a : Attribute). a.name) c.prop.view_is)
      c.has_name.ensures c.if-has_name.true distinct),
)
