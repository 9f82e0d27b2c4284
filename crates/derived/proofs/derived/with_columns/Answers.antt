use Rattle.std.proofs.Common.{◌≡◌, ◌∙◌, Box, Global, List, get_or, map, ap, sym, subst}
use Rattle.std.specs.Prelude.{IfOk}
use Rattle.mk_value.specs.Heading.{Attribute}
use Rattle.mk_value.specs.Tables.{Table}
use Rattle.relations.specs.Columns.{AreColumns}
use Rattle.derived.specs.Layers.{Layered, table_of}
use Rattle.derived.proofs.Chains.{below_in, columns_through, columns_twice}
use Rattle.derived.proofs.derived.with_columns.Goals as goal

pub over_columns-requires : goal.over_columns-requires
over_columns-requires g c =
    let view = rw c.in-Columns.is at c.base.view_is in
    let same = c.into_inner.ensures ∙ ap (λ (b : Box Layered Global). b.value) c.in-Columns.inner-is in
    let kept = rw c.in-Columns.is at c.base.invariant in
    let upper : AreColumns c.in-Columns.field-2 c.args.columns c.args.schema = subst (λ (s : List Attribute). AreColumns s c.args.columns c.args.schema) (sym (ap (λ (t : Layered). t.schema) view)) c.requires in
    let made = c.in_ok-columns-in-Columns.ensures ∙ ap (λ below. map (λ j. get_or below j 0) c.args.columns) (c.as_slice.ensures ∙ c.in-Columns.below-is) in
    subst (λ (t : Layered). AreColumns t.schema c.in_ok-columns-in-Columns.columns c.args.schema) (sym same)
    (columns_through c.in-Columns.inner.value.schema c.in-Columns.field-2 c.args.schema c.in-Columns.below c.args.columns kept.inside upper c.in_ok-columns-in-Columns.columns made)

pub returns-in_ok-columns-in-Columns : goal.returns-in_ok-columns-in-Columns
returns-in_ok-columns-in-Columns g c =
    let view = rw c.in-Columns.is at c.base.view_is in
    let same = c.into_inner.ensures ∙ ap (λ (b : Box Layered Global). b.value) c.in-Columns.inner-is in
    let kept = rw c.in-Columns.is at c.base.invariant in
    let upper : AreColumns c.in-Columns.field-2 c.args.columns c.args.schema = subst (λ (s : List Attribute). AreColumns s c.args.columns c.args.schema) (sym (ap (λ (t : Layered). t.schema) view)) c.requires in
    let made = c.in_ok-columns-in-Columns.ensures ∙ ap (λ below. map (λ j. get_or below j 0) c.args.columns) (c.as_slice.ensures ∙ c.in-Columns.below-is) in
    subst (λ (t : Table). IfOk c.over_columns.result (λ d. table_of d ≡ t))
    (columns_twice c.in-Columns.inner.value c.args.base c.into_inner.result c.in-Columns.below c.args.columns c.in_ok-columns-in-Columns.columns c.in-Columns.field-2 c.args.schema _ view same
    (below_in c.in-Columns.inner.value.schema c.in-Columns.field-2 c.args.schema c.in-Columns.below c.args.columns kept.inside upper) made)
    c.over_columns.ensures
