use Rattle.std.proofs.Common.{◌≡◌, None, refl, subst, sym}
use Rattle.keyed_views.specs.Keeping.{AreKept as AreMapped, mapped}
use Rattle.storage.specs.Stored.{Stored, with_views}
use Rattle.view_store.specs.Refusals.{due}
use Rattle.view_store.specs.Views.{edited_views}
use Rattle.view_store.proofs.Editing.{by_answer}
use Rattle.session.specs.Changes.{edit_of}
use Rattle.session.specs.Keyed.{mapping_on}
use Rattle.session.specs.World.{World}
use Rattle.session.proofs.KeyedKept.{keeps_apart}
use Rattle.session.proofs.session.Session.change.Goals as goal

pub invariant_of-self : goal.invariant_of-self
invariant_of-self c =
    let store = c.self.inside.store in
    let path = c.args.path.now in
    let edit = edit_of c.args.change in
    let due = subst (λ (w : World). due w.store.views path edit ≡ None) (sym c.self.view_is) c.requires.due in
    let apart = subst (λ (w : World). mapping_on w path ≡ None) (sym c.self.view_is) c.requires.apart in (
      (c.make.ensures.kept, c.make.ensures.counted),
      by_answer (λ (s : Stored). AreMapped s.views c.self.inside.mappings) c.make.result c.make.new.store store (with_views store (edited_views store.views path edit)) c.make.ensures.views c.make.ensures.err_store
          (keeps_apart (mapped c.self.inside.mappings) store.views (edited_views store.views path edit) path edit refl apart due c.self.inside.mappings refl c.self.invariant.1) c.self.invariant.1,
    )
