use Rattle.std.proofs.Common.{◌≡◌, [], None, ap, refl, sym, subst, ◌∙◌}
use Rattle.keyed_views.specs.Keyed.{edits_of}
use Rattle.keyed_views.specs.Keeping.{AllBring, AreReady, mapped}
use Rattle.keyed_views.specs.Mapped.{is_mapped}
use Rattle.keyed_views.proofs.Holding.{kept_over}
use Rattle.view_store.specs.Edits.{Edit}
use Rattle.view_store.specs.Refusals.{due}
use Rattle.view_store.specs.Views.{edited_views, table_of}
use Rattle.session.specs.World.{World}
use Rattle.session.proofs.KeyedPut.{gone_at, gone_comes, gone_here}
use Rattle.session.proofs.session.Session.remove_by_key.Goals as goal

pub remove_edit-coming-requires-clause-mapped : goal.remove_edit-coming-requires-clause-mapped
remove_edit-coming-requires-clause-mapped c =
    let views = c.self.inside.store.views in
    let all = c.self.inside.mappings in
    let w = c.args.self.now in
    let route = c.args.path.now in
    ap (is_mapped (mapped all)) c.name-2.ensures ∙ gone_at views all w route (ap (λ (x : World). x.mappings) c.self.view_is) c.requires.mapped

pub remove_edit-coming-requires-clause-kept : goal.remove_edit-coming-requires-clause-kept
remove_edit-coming-requires-clause-kept c =
    let views = c.self.inside.store.views in
    let all = c.self.inside.mappings in
    kept_over views all c.name-2.result.now c.view-table.result.now c.self.invariant.1 (ap (λ n. table_of views n) c.name-2.ensures ∙ (ap (λ n. table_of views n) (sym c.name.ensures) ∙ ap (λ v. table_of v c.name.result.now) (sym c.views.ensures) ∙ c.view-table.ensures))

pub come-requires-clause-due : goal.come-requires-clause-due
come-requires-clause-due c =
    let edit = Edit.remove c.args.place c.args.rows in
    subst (λ v. due v c.args.path.now edit ≡ None) (sym (ap (λ (x : World). x.store.views) c.self.view_is)) c.requires.due

pub come-requires-clause-here : goal.come-requires-clause-here
come-requires-clause-here c = gone_here c.args.self.now.mappings c.args.path.now c.requires.mapped

pub come-requires-clause-one : goal.come-requires-clause-one
come-requires-clause-one c = ap edits_of c.remove_edit-coming.ensures.edit

pub come-requires-clause-mapped : goal.come-requires-clause-mapped
come-requires-clause-mapped c =
    let views = c.self.inside.store.views in
    let all = c.self.inside.mappings in
    let w = c.args.self.now in
    let route = c.args.path.now in
    gone_at views all w route (ap (λ (x : World). x.mappings) c.self.view_is) c.requires.mapped

pub come-requires-clause-comes : goal.come-requires-clause-comes
come-requires-clause-comes c =
    let views = c.self.inside.store.views in
    let all = c.self.inside.mappings in
    let w = c.args.self.now in
    let route = c.args.path.now in
    let t = c.view-table.result.now in
    let edit = Edit.remove c.args.place c.args.rows in
    let coming = c.remove_edit-coming.result in
    let same = ap (λ (x : World). x.store.views) c.self.view_is in
    gone_comes views (edited_views views route edit) route t c.args.place c.args.rows coming all (gone_here w.mappings route c.requires.mapped) (ap (λ n. table_of views n) (sym c.name.ensures) ∙ ap (λ v. table_of v c.name.result.now) (sym c.views.ensures) ∙ c.view-table.ensures)
    (subst (λ v. due v route edit ≡ None) (sym same) c.requires.due) refl c.remove_edit-coming.ensures.edit c.size-size.ensures.whole.few
    (subst (λ n. AllBring n t.rows [] coming all) c.name-2.ensures c.remove_edit-coming.ensures.brings) (subst (λ n. AreReady n coming all) c.name-2.ensures c.remove_edit-coming.ensures.ready)
