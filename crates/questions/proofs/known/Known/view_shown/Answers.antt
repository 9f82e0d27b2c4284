use Rattle.std.proofs.Common.{◌≡◌, true, ap, sym, subst, ◌∙◌}
use Rattle.watches.specs.Keeping.{ShowsAll, followed}
use Rattle.watches.specs.Watches.{is_watch, source_of}
use Rattle.questions.specs.AtHand.{ShowsView}
use Rattle.questions.specs.Kept.{Names}
use Rattle.questions.proofs.AtHand.{shows_through, shows_viewed}
use Rattle.questions.proofs.known.Known.view_shown.Goals as goal

pub returns-then-is_some : goal.returns-then-is_some
returns-then-is_some c = shows_viewed c.args.self.now c.args.name.now c.view_of.result (λ t. t.now) c.view_of.ensures (sym c.is_some.ensures ∙ c.if-is_some.true)

pub returns : goal.returns
returns c =
    let n = c.args.self.now in
    let name = c.args.name.now in
    let inside = c.self.inside in
    let one : is_watch n.watches name ≡ true = ap (λ (m : Names). is_watch m.watches name) (sym c.self.view_is) ∙ c.shows_all.ensures.watch c.if-not-shows_all.false in
    let all : ShowsAll n.views n.watches name = subst (λ (m : Names). ShowsAll m.views m.watches name) c.self.view_is (c.shows_all.ensures.rows c.if-not-shows_all.false inside.views.now c.self.invariant.0) in
    let view = c.view_under.ensures ∙ ap (λ (m : Names). (source_of m.watches name).view) c.self.view_is in
    subst (λ v. ShowsView n v name) (sym view) (shows_through n name (sym c.is_stored.ensures ∙ c.if-is_stored.false) one all)
