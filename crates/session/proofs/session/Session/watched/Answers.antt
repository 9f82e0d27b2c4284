use Rattle.std.proofs.Common.{◌≡◌, false, MatchOption, refl, subst}
use Rattle.watches.specs.Keeping.{followed}
use Rattle.keyed_views.specs.Keeping.{mapped}
use Rattle.watches.specs.Watches.{is_watch}
use Rattle.session.specs.Following.{KeepsPositions}
use Rattle.session.specs.World.{World}
use Rattle.session.proofs.Watched.{keeps_positions}
use Rattle.session.proofs.session.Session.watched.Goals as goal

pub returns : goal.returns
returns c =
    let name = c.args.name.now in
    let inside : World = record { store = c.self.inside.store; snapshots = c.self.inside.snapshots; cursors = c.self.inside.cursors; watches = followed c.self.inside.watches; computed = c.self.inside.computed; mappings = mapped c.self.inside.mappings } in
    subst (λ (w : World). MatchOption c.watched.result (is_watch w.watches name ≡ false) (λ x. KeepsPositions w name x.watches.now x.number)) c.self.view_is
    (keeps_positions inside c.self.inside.watches name c.watched.result (λ x. x.watches.now) (λ x. x.number) refl c.self.invariant.0.0 c.watched.ensures)
