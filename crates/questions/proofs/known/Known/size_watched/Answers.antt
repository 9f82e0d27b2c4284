use Rattle.std.proofs.Common.{◌≡◌, length, ap, sym, subst, ◌∙◌}
use Rattle.watches.specs.Keeping.{followed}
use Rattle.watches.specs.Watches.{watch_table}
use Rattle.questions.specs.Cursors.{rows_watched}
use Rattle.questions.specs.Kept.{Names}
use Rattle.questions.proofs.RowsUnder.{no_rows, size_shown}
use Rattle.questions.proofs.known.Known.size_watched.Goals as goal

pub returns-then-not-is_watch : goal.returns-then-not-is_watch
returns-then-not-is_watch c =
    subst (λ (n : Names). 0 ≡ length (rows_watched n.views n.watches c.args.name.now)) c.self.view_is
    (sym (ap length (no_rows c.self.inside.views.now (followed c.self.inside.watches.now) c.args.name.now (sym c.is_watch.ensures ∙ c.if-not-is_watch.true))))

pub returns : goal.returns
returns c =
    subst (λ (n : Names). c.size.result ≡ length (rows_watched n.views n.watches c.args.name.now)) c.self.view_is
    (size_shown (watch_table c.self.inside.views.now (followed c.self.inside.watches.now) c.args.name.now) c.size.result (c.size.ensures c.self.inside.views.now c.self.invariant.0))
