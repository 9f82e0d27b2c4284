use Rattle.std.proofs.Common.{sym}
use Rattle.view_store.proofs.Editing.{may_insert, completed_row_fits, completed_whole}
use Rattle.view_store.proofs.edit.insert_whole.Goals as goal

pub insert_rows-requires-clause-row : goal.insert_rows-requires-clause-row
insert_rows-requires-clause-row c =
    let t = c.args.table.now in
    let values = c.args.row.now in
    completed_row_fits t c.args.at c.args.count values values (may_insert t c.args.at c.args.count values c.requires.due) (sym (completed_whole t.schema values c.requires.whole))
