use Rattle.std.proofs.Common.{◌≡◌, None, ap, subst, sym, ◌∙◌}
use Rattle.keyed_views.specs.Mapped.{is_mapped}
use Rattle.keyed_views.specs.Keeping.{mapped}
use Rattle.storage.specs.Stored.{with_views}
use Rattle.view_store.specs.Refusals.{due}
use Rattle.view_store.specs.Rests.{ViewsRestOn}
use Rattle.view_store.specs.Views.{edited_views, table_of}
use Rattle.view_store.proofs.Editing.{OnOk-then}
use Rattle.session.specs.Changes.{edit_of}
use Rattle.session.specs.Keyed.{Comes}
use Rattle.session.proofs.KeyedLines.{rests_in_turn}
use Rattle.session.proofs.KeyedSet.{changed_alone, may_stand, one_change, stood}
use Rattle.session.proofs.keyed.set_in.Goals as goal

pub come-requires-clause-due : goal.come-requires-clause-due
come-requires-clause-due c = c.requires.stands.1.allowed.0

pub come-requires-clause-one : goal.come-requires-clause-one
come-requires-clause-one c = one_change c.args.coming.edit (edit_of c.args.change) c.in-Change-default-None.at c.in-Change-default-None.other c.requires.set c.in-Change-default-None.is (rw c.in-Change-default-None.is at c.in-Change-default-None.other-is)

pub come-requires-clause-comes : goal.come-requires-clause-comes
come-requires-clause-comes c =
    let views = c.args.store.now.views in
    let path = c.args.path.now in
    let stands = c.requires.stands.1 in
    subst (λ v. Comes path.name c.args.coming c.args.mappings.now views v) (changed_alone views path (edit_of c.args.change) c.requires.stands.0 c.args.coming.edit c.in-Change-default-None.at c.in-Change-default-None.other c.in-Change-default-None.is (rw c.in-Change-default-None.is at c.in-Change-default-None.other-is)) stands.comes

pub returns-in-Change-default-None-clause-views : goal.returns-in-Change-default-None-clause-views
returns-in-Change-default-None-clause-views c = λ row stands.
    let store = c.args.store.now in
    OnOk-then c.come.result c.come.ensures.views (λ made.
    made ∙ ap (with_views store) (sym (changed_alone store.views c.args.path.now (edit_of c.args.change) row c.args.coming.edit c.in-Change-default-None.at c.in-Change-default-None.other c.in-Change-default-None.is (rw c.in-Change-default-None.is at c.in-Change-default-None.other-is))))

pub views_with-requires-clause-due : goal.views_with-requires-clause-due
views_with-requires-clause-due c = subst (λ v. due v c.args.path.now (edit_of c.args.change) ≡ None) (sym c.views.ensures) c.requires.stands.1.allowed.0

pub row_that_moves-requires : goal.row_that_moves-requires
row_that_moves-requires c =
    let path = c.args.path.now in
    let stood = c.requires.stands.1.stood in
    let made = c.in_ok-views.ensures.ok ∙ ap (λ v. edited_views v path (edit_of c.args.change)) c.views.ensures in
    (stood.0, ap (λ v. table_of v c.name.result.now) made ∙ ap (table_of (edited_views c.args.store.now.views path (edit_of c.args.change))) c.name.ensures ∙ stood.1, stood.2)

pub stand-requires : goal.stand-requires
stand-requires c =
    let views = c.args.store.now.views in
    let path = c.args.path.now in
    let edit = edit_of c.args.change in
    let made = c.in_ok-views.ensures.ok ∙ ap (λ v. edited_views v path edit) c.views.ensures in
    may_stand views c.in_ok-views.views path c.args.coming edit c.args.mappings.now c.name.result.now c.in_ok-row.row c.requires.stands.0 made c.name.ensures c.in_ok-row.ensures.ok c.requires.stands.1

pub follow_coming-requires-clause-rests : goal.follow_coming-requires-clause-rests
follow_coming-requires-clause-rests c =
    rests_in_turn c.args.store.now.views c.in_ok-views.views c.stand.new.views c.in_ok-stand.ensures.rests (subst (ViewsRestOn c.in_ok-views.views) c.views.ensures c.in_ok-views.ensures.rests)

pub follow_coming-requires-clause-mapped : goal.follow_coming-requires-clause-mapped
follow_coming-requires-clause-mapped c = ap (is_mapped (mapped c.args.mappings.now)) c.name-2.ensures ∙ c.requires.mapped

pub follow_coming-requires-clause-comes : goal.follow_coming-requires-clause-comes
follow_coming-requires-clause-comes c =
    let views = c.args.store.now.views in
    let path = c.args.path.now in
    let edit = edit_of c.args.change in
    let all = c.args.mappings.now in
    let made = c.in_ok-views.ensures.ok ∙ ap (λ v. edited_views v path edit) c.views.ensures in
    let new = c.stand.new.views in
    let is = stood views c.in_ok-views.views path c.args.coming edit all c.name.result.now c.in_ok-row.row c.requires.stands.0 made c.name.ensures c.in_ok-row.ensures.ok c.requires.stands.1 new c.in_ok-stand.ensures.ok in
    subst (λ n. Comes n c.args.coming all views new) (sym c.name-2.ensures) (subst (λ v. Comes path.name c.args.coming all views v) (sym is) c.requires.stands.1.comes)

pub returns-clause-views : goal.returns-clause-views
returns-clause-views c = λ row stands.
    let store = c.args.store.now in
    let path = c.args.path.now in
    let edit = edit_of c.args.change in
    let made = c.in_ok-views.ensures.ok ∙ ap (λ v. edited_views v path edit) c.views.ensures in
    let is = stood store.views c.in_ok-views.views path c.args.coming edit c.args.mappings.now c.name.result.now c.in_ok-row.row row made c.name.ensures c.in_ok-row.ensures.ok stands c.stand.new.views c.in_ok-stand.ensures.ok in
    OnOk-then c.follow_coming.result c.follow_coming.ensures.views (λ put. put ∙ ap (with_views store) is)
