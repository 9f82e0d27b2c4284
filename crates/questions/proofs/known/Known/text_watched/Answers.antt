use Rattle.std.proofs.Common.{◌<◌, length, sym, subst}
use Rattle.watches.specs.Keeping.{followed}
use Rattle.watches.specs.Watches.{watch_table}
use Rattle.questions.specs.Cursors.{rows_watched}
use Rattle.questions.specs.Kept.{Names}
use Rattle.questions.proofs.RowsUnder.{row_there, some_rows}
use Rattle.questions.proofs.known.Known.text_watched.Goals as goal

pub place-place-requires-clause-there : goal.place-place-requires-clause-there
place-place-requires-clause-there c =
    some_rows c.self.inside.views.now (followed c.self.inside.watches.now) c.args.name.now c.args.row
    (subst (λ (n : Names). c.args.row < length (rows_watched n.views n.watches c.args.name.now)) (sym c.self.view_is) c.requires)

pub place-place-requires-clause-row_in : goal.place-place-requires-clause-row_in
place-place-requires-clause-row_in c =
    row_there (watch_table c.self.inside.views.now (followed c.self.inside.watches.now) c.args.name.now) c.args.row
    (subst (λ (n : Names). c.args.row < length (rows_watched n.views n.watches c.args.name.now)) (sym c.self.view_is) c.requires)
