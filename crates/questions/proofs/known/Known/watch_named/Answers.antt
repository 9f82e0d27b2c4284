use Rattle.std.proofs.Common.{◌≡◌, [], true, Ok, Some, ap, sym, subst, ◌∙◌, refl}
use Rattle.eval.specs.Names.{view_at}
use Rattle.expr_text.specs.Meanings.{query_of}
use Rattle.expr_text.specs.Queries.{Query}
use Rattle.watches.specs.Keeping.{followed}
use Rattle.watches.specs.Rows.{table_read}
use Rattle.watches.specs.Watches.{is_watch, watch_table}
use Rattle.questions.specs.InOrder.{IsWatchNamed}
use Rattle.questions.specs.Kept.{Names, stored, watched}
use Rattle.questions.specs.Places.{order_at}
use Rattle.questions.proofs.Found.{no_steps_left, view_at-behind, watch_seen}
use Rattle.questions.proofs.Watched.{none_left}
use Rattle.questions.proofs.known.Known.watch_named.Goals as goal

pub returns : goal.returns
returns c =
    let n = c.args.self.now in
    let views = c.self.inside.views.now in
    let watches = followed c.self.inside.watches.now in
    let route = c.in-Path.path in
    let t = table_read c.rows.result in
    let none = no_steps_left c.steps.result.now (sym c.is_empty.ensures ∙ c.if-not-is_empty.false) in
    let here : route.steps ≡ [] = sym c.steps.ensures ∙ none in
    let shows : watch_table n.views n.watches route.name ≡ Some t =
    ap (λ (m : Names). watch_table m.views m.watches route.name) (sym c.self.view_is) ∙ ap (watch_table views watches) (sym c.name-3.ensures) ∙ c.rows.ensures in
    let one : is_watch n.watches route.name ≡ true = ap (λ (m : Names). is_watch m.watches route.name) (sym c.self.view_is) ∙ ap (is_watch watches) (sym c.name-2.ensures) ∙ sym c.is_watch.ensures ∙ c.if-not-is_watch.false in
    let seen : view_at (watched n.views n.watches) route ≡ Ok t = watch_seen n.views n.watches route route.name t refl here one shows in
    subst (λ (q : Query). IsWatchNamed n q t) (sym (ap query_of c.in-Path.is))
    (record {
      route = route;
      names = refl;
      seen = view_at-behind (stored n.views n.snapshots) (watched n.views n.watches) route c.name.result.now c.name.ensures (sym c.is_stored.ensures ∙ c.if-is_stored.false) ∙ seen;
      shows = shows;
      unkeyed = none_left (order_at n.mappings route) c.order_at.result (sym c.order_at.ensures) (sym c.is_some.ensures ∙ c.if-is_some.false);
    })
