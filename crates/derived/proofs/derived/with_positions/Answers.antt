use Rattle.std.proofs.Common.{◌≡◌, ◌∙◌, Box, Global, get_or, map, ap, subst}
use Rattle.std.specs.Prelude.{IfOk}
use Rattle.mk_value.specs.Tables.{Table}
use Rattle.derived.specs.Layers.{Layered, table_of}
use Rattle.derived.proofs.Chains.{gathered_twice}
use Rattle.derived.proofs.derived.with_positions.Goals as goal

pub returns-in-Rows : goal.returns-in-Rows
returns-in-Rows g c =
    let view = rw c.in-Rows.is at c.base.view_is in
    let same = c.into_inner.ensures ∙ ap (λ (b : Box Layered Global). b.value) c.in-Rows.inner-is in
    subst (λ (t : Table). IfOk c.over_rows.result (λ d. table_of d ≡ t))
    (gathered_twice c.in-Rows.inner.value c.args.base c.into_inner.result c.in-Rows.below c.composed-positions.result _ c.args.positions view same c.requires.in_range
    (c.composed-positions.ensures ∙ ap (λ below. map (λ i. get_or below i 0) c.args.positions) (c.as_slice.ensures ∙ c.in-Rows.below-is)))
    c.over_rows.ensures
