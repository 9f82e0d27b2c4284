use Rattle.std.proofs.Common.{◌≡◌, ◌||◌, false, sym, subst, ◌∙◌}
use Rattle.watches.specs.Keeping.{AreKept}
use Rattle.watches.specs.Watches.{is_watched}
use Rattle.kept_counts.specs.Keeping.{AreCounted}
use Rattle.kept_counts.proofs.Holding.{nothing_counted}
use Rattle.keyed_views.specs.Keeping.{AreKept as AreMapped}
use Rattle.keyed_views.specs.Mapped.{is_mapped}
use Rattle.questions.specs.Cursors.{has_cursor_on}
use Rattle.questions.specs.declared.cursor.Standing.TheVariants.{View}
use Rattle.storage.specs.Stored.{Stored, with_views}
use Rattle.view_store.specs.Views.{without_view}
use Rattle.view_store.proofs.Editing.{by_answer}
use Rattle.session.specs.World.{World}
use Rattle.computing.specs.Computed.{is_source}
use Rattle.session.proofs.KeyedKept.{first_false, mapped_without, neither_of}
use Rattle.session.proofs.Watched.{kept_without}
use Rattle.session.proofs.session.Session.drop_view.Goals as goal

pub invariant_of-self : goal.invariant_of-self
invariant_of-self c =
    let store = c.self.inside.store in
    let name = c.args.name.now in
    let w = c.args.self.now in
    let none = neither_of (has_cursor_on w.cursors View name) (is_watched w.watches name) (is_mapped w.mappings name || is_source w.computed name) (sym c.is_view_used.ensures ∙ c.if-is_view_used.false) in
    by_answer (λ (s : Stored). (AreKept s.views c.self.inside.watches × AreCounted s.views c.clear.new.self) × AreMapped s.views c.self.inside.mappings) c.drop_view.result c.drop_view.new.self store (with_views store (without_view store.views name))
    c.drop_view.ensures.ok c.drop_view.ensures.err (
      (
        kept_without store.views c.self.inside.watches name (subst (λ (w : World). is_watched w.watches name ≡ false) (sym c.self.view_is) none.0) c.self.invariant.0.0,
        nothing_counted _ c.clear.new.self c.clear.ensures,
      ),
      mapped_without store.views c.self.inside.mappings name (subst (λ (w : World). is_mapped w.mappings name ≡ false) (sym c.self.view_is) (first_false (is_mapped w.mappings name) (is_source w.computed name) none.1)) c.self.invariant.1,
    )
    ((c.self.invariant.0.0, nothing_counted _ c.clear.new.self c.clear.ensures), c.self.invariant.1)
