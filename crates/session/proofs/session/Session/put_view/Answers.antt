use Rattle.std.proofs.Common.{◌≡◌, false, sym, subst}
use Rattle.watches.specs.Keeping.{AreKept}
use Rattle.watches.specs.Watches.{is_watched}
use Rattle.kept_counts.specs.Keeping.{AreCounted}
use Rattle.kept_counts.proofs.Holding.{nothing_counted}
use Rattle.keyed_views.specs.Keeping.{AreKept as AreMapped}
use Rattle.keyed_views.specs.Mapped.{is_mapped}
use Rattle.storage.specs.Stored.{Stored, with_views}
use Rattle.view_store.specs.Views.{with_view}
use Rattle.view_store.proofs.Editing.{by_answer}
use Rattle.session.specs.World.{World}
use Rattle.session.proofs.KeyedKept.{mapped_with}
use Rattle.session.proofs.Watched.{kept_with}
use Rattle.session.proofs.session.Session.put_view.Goals as goal

pub invariant_of-self : goal.invariant_of-self
invariant_of-self c =
    let store = c.self.inside.store in
    let name = c.args.name.now in
    by_answer (λ (s : Stored). (AreKept s.views c.self.inside.watches × AreCounted s.views c.clear.new.self) × AreMapped s.views c.self.inside.mappings) c.put_view.result c.put_view.new.self store (with_views store (with_view store.views name c.args.table))
    c.put_view.ensures.ok c.put_view.ensures.err (
      (
        kept_with store.views c.self.inside.watches name c.args.table (subst (λ (w : World). is_watched w.watches name ≡ false) (sym c.self.view_is) c.requires.unwatched) c.self.invariant.0.0,
        nothing_counted _ c.clear.new.self c.clear.ensures,
      ),
      mapped_with store.views c.self.inside.mappings name c.args.table (subst (λ (w : World). is_mapped w.mappings name ≡ false) (sym c.self.view_is) c.requires.unmapped) c.self.invariant.1,
    )
    ((c.self.invariant.0.0, nothing_counted _ c.clear.new.self c.clear.ensures), c.self.invariant.1)
