use Rattle.std.proofs.Common.{List, ap, subst, sym, ◌∙◌}
use Rattle.keyed_views.specs.Keyed.{edits_of}
use Rattle.keyed_views.specs.Mapped.{is_mapped}
use Rattle.keyed_views.specs.Keeping.{mapped}
use Rattle.storage.specs.Stored.{with_views}
use Rattle.view_store.specs.Rests.{ViewsRestOn}
use Rattle.view_store.specs.Views.{NamedTable}
use Rattle.view_store.proofs.Editing.{OnOk-then}
use Rattle.session.specs.Keyed.{AreAllowed, Comes, edited_in_turn, put_edits}
use Rattle.session.proofs.keyed.put_in.Goals as goal

pub come-requires-clause-due : goal.come-requires-clause-due
come-requires-clause-due c = (subst (λ e. AreAllowed c.args.store.now.views c.args.path.now (put_edits c.args.row.now e)) c.in-Put.is c.requires.allowed).0

pub come-requires-clause-one : goal.come-requires-clause-one
come-requires-clause-one c = ap edits_of c.in-Put.is

pub come-requires-clause-comes : goal.come-requires-clause-comes
come-requires-clause-comes c =
    let views = c.args.store.now.views in
    let path = c.args.path.now in
    subst (λ e. Comes path.name c.args.coming c.args.mappings.now views (edited_in_turn views path (put_edits c.args.row.now e))) c.in-Put.is c.requires.comes

pub returns-in-Put-clause-views : goal.returns-in-Put-clause-views
returns-in-Put-clause-views c =
    let store = c.args.store.now in
    OnOk-then c.come.result c.come.ensures.views (λ made.
    made ∙ ap (λ e. with_views store (edited_in_turn store.views c.args.path.now (put_edits c.args.row.now e))) (sym c.in-Put.is))

pub views_with_row-requires : goal.views_with_row-requires
views_with_row-requires c = subst (λ v. AreAllowed v c.args.path.now (put_edits c.args.row.now c.args.coming.edit)) (sym c.views.ensures) c.requires.allowed

pub follow_coming-requires-clause-rests : goal.follow_coming-requires-clause-rests
follow_coming-requires-clause-rests c = subst (λ v. ViewsRestOn c.in_ok-views.views v) c.views.ensures c.in_ok-views.ensures.rests

pub follow_coming-requires-clause-mapped : goal.follow_coming-requires-clause-mapped
follow_coming-requires-clause-mapped c = ap (is_mapped (mapped c.args.mappings.now)) c.name.ensures ∙ c.requires.mapped

pub follow_coming-requires-clause-comes : goal.follow_coming-requires-clause-comes
follow_coming-requires-clause-comes c =
    let views = c.args.store.now.views in
    let edits = put_edits c.args.row.now c.args.coming.edit in
    let made = c.in_ok-views.ensures.ok ∙ ap (λ v. edited_in_turn v c.args.path.now edits) c.views.ensures in
    subst (λ n. Comes n c.args.coming c.args.mappings.now views c.in_ok-views.views) (sym c.name.ensures)
    (subst (λ (v : List NamedTable). Comes c.args.path.now.name c.args.coming c.args.mappings.now views v) (sym made) c.requires.comes)
