use Rattle.std.proofs.Common.{List, ap, subst, sym, ◌∙◌}
use Rattle.watches.specs.Keeping.{followed}
use Rattle.watches.specs.Watches.{followed_by}
use Rattle.keyed_views.specs.Keyed.{edits_of}
use Rattle.keyed_views.specs.Keeping.{AllBring, AreKept as AreMapped, AreReady, EditsRows, mapped}
use Rattle.keyed_views.specs.Mapped.{is_mapped}
use Rattle.storage.specs.Stored.{Stored}
use Rattle.view_store.specs.Views.{NamedTable}
use Rattle.session.specs.Changes.{edit_of}
use Rattle.session.proofs.Made.{one_followed}
use Rattle.session.proofs.keyed.come.Goals as goal

pub returns-in_err-make-clause-kept : goal.returns-in_err-make-clause-kept
returns-in_err-make-clause-kept c = subst (λ (s : Stored). AreMapped s.views c.args.mappings.now) (sym c.in_err-make.ensures.err_store) c.requires.kept

pub follow-requires-clause-mapped : goal.follow-requires-clause-mapped
follow-requires-clause-mapped c = ap (is_mapped (mapped c.args.mappings.now)) c.name.ensures ∙ c.requires.mapped

pub follow-requires-clause-ready : goal.follow-requires-clause-ready
follow-requires-clause-ready c = subst (λ n. AreReady n c.args.coming c.args.mappings.now) (sym c.name.ensures) c.requires.comes.ready

pub returns-clause-followed : goal.returns-clause-followed
returns-clause-followed c =
    let path = c.args.path.now in
    c.in_ok-make.ensures.followed ∙ ap (followed_by (followed c.args.watches.now) path.name) (one_followed path.steps (edit_of c.args.change) c.args.coming.edit c.requires.here c.requires.one)

pub returns-clause-kept : goal.returns-clause-kept
returns-clause-kept c =
    let views = c.args.store.now.views in
    let all = c.args.mappings.now in
    let coming = c.args.coming in
    let comes = c.requires.comes in
    let new = c.make.new.store.views in
    let made = ap (λ (s : Stored). s.views) c.in_ok-make.ensures.views in
    c.follow.ensures.kept views new comes.rows comes.row c.requires.kept (subst (λ n. AllBring n comes.rows comes.row coming all) (sym c.name.ensures) comes.brings)
    (subst (λ n. EditsRows n comes.row (edits_of coming.edit) comes.rows views new) (sym c.name.ensures)
    (subst (λ (v : List NamedTable). EditsRows c.args.path.now.name comes.row (edits_of coming.edit) comes.rows views v) (sym made) comes.edits))
