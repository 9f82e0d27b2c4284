use Rattle.std.proofs.Common.{◌≡◌, [], None, false, refl, ap, sym, subst, ◌∙◌}
use Rattle.watches.specs.Watches.{is_watched}
use Rattle.view_store.specs.Views.{table_of}
use Rattle.session.specs.World.{World}
use Rattle.keyed_views.specs.Mapped.{is_mapped}
use Rattle.session.proofs.KeyedKept.{absent_unmapped}
use Rattle.session.proofs.Watched.{absent_unwatched}
use Rattle.tables.specs.Rests.{homed_columns}
use Rattle.tables.specs.Tables.{table_without_homes}
use Rattle.tables.proofs.Resting.{homed_columns-empty}
use Rattle.view_store.specs.Rests.{MayReplace}
use Rattle.session.proofs.session.Session.add_view.Goals as goal

pub put_view-requires-clause-rests : goal.put_view-requires-clause-rests
put_view-requires-clause-rests c =
    subst (λ o. MayReplace c.in_ok-table.table o) (sym c.requires.absent)
    (ap homed_columns c.in_ok-table.ensures.ok ∙ homed_columns-empty (table_without_homes c.args.schema.now []) refl)

pub put_view-requires-clause-unwatched : goal.put_view-requires-clause-unwatched
put_view-requires-clause-unwatched c =
    let name = c.args.name.now in
    subst (λ (w : World). is_watched w.watches name ≡ false) c.self.view_is
    (absent_unwatched c.self.inside.store.views c.self.inside.watches name c.self.invariant.0.0
    (subst (λ (w : World). table_of w.store.views name ≡ None) (sym c.self.view_is) c.requires.absent))

pub put_view-requires-clause-unmapped : goal.put_view-requires-clause-unmapped
put_view-requires-clause-unmapped c =
    let name = c.args.name.now in
    subst (λ (w : World). is_mapped w.mappings name ≡ false) c.self.view_is
    (absent_unmapped c.self.inside.store.views c.self.inside.mappings name c.self.invariant.1
    (subst (λ (w : World). table_of w.store.views name ≡ None) (sym c.self.view_is) c.requires.absent))
