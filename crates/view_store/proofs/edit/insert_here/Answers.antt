use Rattle.std.proofs.Common.{ap, ◌∙◌}
use Rattle.tables.specs.Rows.{completed}
use Rattle.view_store.proofs.Editing.{may_insert, completed_row_fits}
use Rattle.view_store.proofs.edit.insert_here.Goals as goal

pub insert_rows-requires-clause-row : goal.insert_rows-requires-clause-row
insert_rows-requires-clause-row c =
    let t = c.args.table.now in
    let values = c.args.row.now in
    completed_row_fits t c.args.at c.args.count values c.in_ok-full.full (may_insert t c.args.at c.args.count values c.requires)
    (c.in_ok-full.ensures ∙ ap (λ s. completed s values) c.schema-2.ensures.value)
