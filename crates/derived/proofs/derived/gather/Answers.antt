use Rattle.std.proofs.Common.{◌≡◌, ◌∙◌, Box, Global, ap, subst}
use Rattle.std.specs.Prelude.{IfOk}
use Rattle.mk_value.specs.Tables.{Table}
use Rattle.derived.specs.Layers.{Layered, table_of}
use Rattle.derived.proofs.Chains.{gathered_below, same_table}
use Rattle.derived.proofs.derived.gather.Goals as goal

pub returns-in_ok-rows-in-Columns : goal.returns-in_ok-rows-in-Columns
returns-in_ok-rows-in-Columns g c =
    let view = rw c.in-Columns.is at c.base.view_is in
    let same = c.into_inner.ensures ∙ ap (λ (b : Box Layered Global). b.value) c.in-Columns.inner-is in
    subst (λ (t : Table). IfOk c.over_columns.result (λ d. table_of d ≡ t))
    (same_table _ _ _ _ c.in_ok-rows-in-Columns.rows.rows c.in-Columns.schema-is c.in-Columns.columns-is
    ∙ gathered_below c.in-Columns.inner.value c.args.base c.into_inner.result c.in_ok-rows-in-Columns.rows c.in-Columns.columns c.in-Columns.schema _ c.args.positions view same c.requires.in_range c.in_ok-rows-in-Columns.ensures)
    c.over_columns.ensures
