use Rattle.std.proofs.Common.{◌∙◌, ap, sym, subst}
use Rattle.mk_value.specs.Data.{AreRowsOf}
use Rattle.mk_value.proofs.Headings.{attributes_of-heading_of}
use Rattle.mk_value.proofs.Relations.{IsOf-relation}
use Rattle.tables.specs.Tables.{table_without_homes}
use Rattle.tables.proofs.Cells.{IfOk-then}
use Rattle.tables.proofs.build.inner_of_rows.Goals as goal

pub table_of_rows-requires : goal.table_of_rows-requires
table_of_rows-requires c =
    let fits = rw c.in-V.is at c.requires in
    subst (λ s. AreRowsOf c.args.rows.now s) (sym c.in_ok-schema.ensures) ((IsOf-relation c.args.rows.now c.in-V.schema).1 fits)

pub returns : goal.returns
returns c =
    rw c.in-V.is
    (IfOk-then c.share.result c.share.ensures
    (λ u e. e ∙ c.in_ok-table_of_rows.ensures ∙ ap (λ s. table_without_homes s c.args.rows.now) (c.in_ok-schema.ensures ∙ sym (attributes_of-heading_of c.in-V.schema))))
