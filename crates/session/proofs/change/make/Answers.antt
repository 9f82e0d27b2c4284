use Rattle.std.proofs.Common.{◌≡◌, [], ◌∷◌, ◌<◌, ◌^◌, IsSome, ap, refl, subst, sym, ◌∙◌}
use Rattle.watches.specs.Lines.{room_for}
use Rattle.watches.proofs.Holding.{kept_over}
use Rattle.watches.specs.Keeping.{AreKept, HaveRoom, followed}
use Rattle.kept_counts.proofs.Holding.{over_view}
use Rattle.row_edits.specs.declared.edit.RowEdit.{RowEdit}
use Rattle.storage.specs.Stored.{Stored}
use Rattle.view_store.specs.Views.{edited_views, table_of}
use Rattle.session.specs.Changes.{edit_of, row_edit_of}
use Rattle.session.specs.Following.{edit_at}
use Rattle.session.proofs.Made.{counted_made, named_edited, named_there, noted_changes, noted_followed, noted_made, noted_range, room_made, room_one, when_ok}
use Rattle.session.proofs.change.make.Goals as goal

pub reserve-requires : goal.reserve-requires
reserve-requires c =
    let views = c.args.store.now.views in
    let path = c.args.path.now in
    let edit = edit_of c.args.change in
    let name = c.name-name.result.now in
    let named = c.name-name.ensures in
    let is : c.edit_at-edit.result ≡ edit_at path.steps (row_edit_of edit) = c.edit_at-edit.ensures ∙ ap (λ s. edit_at s c.rows.result) c.steps.ensures ∙ ap (edit_at path.steps) c.rows.ensures in
    record { few = subst (λ (e : RowEdit). room_for (e ∷ []) < 2 ^ 64) (sym is) (room_made views path edit c.requires.due) }

pub view-before-requires : goal.view-before-requires
view-before-requires c =
    let views = c.args.store.now.views in
    let path = c.args.path.now in
    let edit = edit_of c.args.change in
    let name = c.name-name.result.now in
    let named = c.name-name.ensures in
    subst (λ v. IsSome (table_of v name)) (sym c.views.ensures) (named_there views (edited_views views path edit) path edit c.requires.due refl name named)

pub note-requires-clause-kept : goal.note-requires-clause-kept
note-requires-clause-kept c =
    let views = c.args.store.now.views in
    let name = c.name-name.result.now in
    kept_over views c.reserve.new.self name c.view-before.result.now (c.reserve.ensures.kept views c.requires.kept) (ap (λ v. table_of v name) (sym c.views.ensures) ∙ c.view-before.ensures)

pub note-requires-clause-range : goal.note-requires-clause-range
note-requires-clause-range c =
    let views = c.args.store.now.views in
    let path = c.args.path.now in
    let edit = edit_of c.args.change in
    let name = c.name-name.result.now in
    let named = c.name-name.ensures in
    let is : c.edit_at-edit.result ≡ edit_at path.steps (row_edit_of edit) = c.edit_at-edit.ensures ∙ ap (λ s. edit_at s c.rows.result) c.steps.ensures ∙ ap (edit_at path.steps) c.rows.ensures in
    let t = c.view-before.result.now in
    let found = ap (λ v. table_of v name) (sym c.views.ensures) ∙ c.view-before.ensures in
    noted_range views (edited_views views path edit) path edit c.requires.due refl name named t found c.edit_at-edit.result is

pub note-requires-clause-room : goal.note-requires-clause-room
note-requires-clause-room c =
    let name = c.name-name.result.now in
    let e = c.edit_at-edit.result in
    subst (λ n. HaveRoom name n c.reserve.new.self) (room_one e) (when_ok c.reserve.result c.map_err.result _ c.map_err.ensures.variant c.in_ok-map_err.was c.reserve.ensures.room)

pub view-after-requires : goal.view-after-requires
view-after-requires c =
    let views = c.args.store.now.views in
    let path = c.args.path.now in
    let edit = edit_of c.args.change in
    let name = c.name-name.result.now in
    let named = c.name-name.ensures in
    let made = ap (λ (s : Stored). s.views) c.in-Ok.ensures.ok in
    subst (λ v. IsSome (table_of v name)) (sym c.views-in-Ok.ensures) (named_edited views c.edit.new.store.views path edit c.requires.due made name named)

pub follow-requires : goal.follow-requires
follow-requires c =
    let views = c.args.store.now.views in
    let path = c.args.path.now in
    let edit = edit_of c.args.change in
    let name = c.name-name.result.now in
    let named = c.name-name.ensures in
    let is : c.edit_at-edit.result ≡ edit_at path.steps (row_edit_of edit) = c.edit_at-edit.ensures ∙ ap (λ s. edit_at s c.rows.result) c.steps.ensures ∙ ap (edit_at path.steps) c.rows.ensures in
    let t = c.view-before.result.now in
    let found = ap (λ v. table_of v name) (sym c.views.ensures) ∙ c.view-before.ensures in
    let new = c.edit.new.store.views in
    let made = ap (λ (s : Stored). s.views) c.in-Ok.ensures.ok in
    let u = c.view-after.result.now in
    let now = ap (λ v. table_of v name) (sym c.views-in-Ok.ensures) ∙ c.view-after.ensures in
    record { noted = noted_made views new path edit c.requires.due made name named t found u now c.edit_at-edit.result c.note.new.self is c.note.ensures.noted }

pub returns-in-Ok-clause-followed : goal.returns-in-Ok-clause-followed
returns-in-Ok-clause-followed c =
    let views = c.args.store.now.views in
    let path = c.args.path.now in
    let edit = edit_of c.args.change in
    let name = c.name-name.result.now in
    let named = c.name-name.ensures in
    let is : c.edit_at-edit.result ≡ edit_at path.steps (row_edit_of edit) = c.edit_at-edit.ensures ∙ ap (λ s. edit_at s c.rows.result) c.steps.ensures ∙ ap (edit_at path.steps) c.rows.ensures in
    noted_followed path edit name c.edit_at-edit.result (followed c.args.watches.now) (followed c.note.new.self) (followed c.follow.new.self) named is (c.note.ensures.same ∙ c.reserve.ensures.same) c.follow.ensures.followed

pub returns-in-Ok-clause-kept : goal.returns-in-Ok-clause-kept
returns-in-Ok-clause-kept c =
    let views = c.args.store.now.views in
    let path = c.args.path.now in
    let edit = edit_of c.args.change in
    let name = c.name-name.result.now in
    let named = c.name-name.ensures in
    let t = c.view-before.result.now in
    let found = ap (λ v. table_of v name) (sym c.views.ensures) ∙ c.view-before.ensures in
    let new = c.edit.new.store.views in
    let made = ap (λ (s : Stored). s.views) c.in-Ok.ensures.ok in
    let u = c.view-after.result.now in
    let now = ap (λ v. table_of v name) (sym c.views-in-Ok.ensures) ∙ c.view-after.ensures in
    c.follow.ensures.kept t.rows views new (c.note.ensures.kept views (c.reserve.ensures.kept views c.requires.kept)) (noted_changes views new path edit c.requires.due made name named t found u now)

pub view-requires : goal.view-requires
view-requires c =
    let views = c.args.store.now.views in
    let path = c.args.path.now in
    let edit = edit_of c.args.change in
    let name = c.name-name.result.now in
    let named = c.name-name.ensures in
    subst (λ v. IsSome (table_of v name)) (sym c.views-in-Err.ensures)
    (subst (λ (s : Stored). IsSome (table_of s.views name)) (sym c.in-Err.ensures.err) (named_there views (edited_views views path edit) path edit c.requires.due refl name named))

pub returns-in-Err-clause-kept : goal.returns-in-Err-clause-kept
returns-in-Err-clause-kept c =
    let views = c.args.store.now.views in
    subst (λ (s : Stored). AreKept s.views c.forget.new.self) (sym c.in-Err.ensures.err) (c.forget.ensures.kept views (c.note.ensures.kept views (c.reserve.ensures.kept views c.requires.kept)))

pub note-requires-2-clause-kept : goal.note-requires-2-clause-kept
note-requires-2-clause-kept c =
    let views = c.args.store.now.views in
    let name = c.name-name.result.now in
    over_view views c.args.counted.now name c.view-before.result.now c.requires.counted (ap (λ v. table_of v name) (sym c.views.ensures) ∙ c.view-before.ensures)

pub note-requires-2-clause-range : goal.note-requires-2-clause-range
note-requires-2-clause-range c =
    let views = c.args.store.now.views in
    let path = c.args.path.now in
    let edit = edit_of c.args.change in
    let name = c.name-name.result.now in
    let named = c.name-name.ensures in
    let is : c.edit_at-edit.result ≡ edit_at path.steps (row_edit_of edit) = c.edit_at-edit.ensures ∙ ap (λ s. edit_at s c.rows.result) c.steps.ensures ∙ ap (edit_at path.steps) c.rows.ensures in
    let t = c.view-before.result.now in
    let found = ap (λ v. table_of v name) (sym c.views.ensures) ∙ c.view-before.ensures in
    noted_range views (edited_views views path edit) path edit c.requires.due refl name named t found c.edit_at-edit.result is

pub follow-requires-in-Ok : goal.follow-requires-in-Ok
follow-requires-in-Ok c =
    let views = c.args.store.now.views in
    let path = c.args.path.now in
    let edit = edit_of c.args.change in
    let name = c.name-name.result.now in
    let named = c.name-name.ensures in
    let is : c.edit_at-edit.result ≡ edit_at path.steps (row_edit_of edit) = c.edit_at-edit.ensures ∙ ap (λ s. edit_at s c.rows.result) c.steps.ensures ∙ ap (edit_at path.steps) c.rows.ensures in
    let t = c.view-before.result.now in
    let found = ap (λ v. table_of v name) (sym c.views.ensures) ∙ c.view-before.ensures in
    let new = c.edit.new.store.views in
    let made = ap (λ (s : Stored). s.views) c.in-Ok.ensures.ok in
    let u = c.view-after.result.now in
    let now = ap (λ v. table_of v name) (sym c.views-in-Ok.ensures) ∙ c.view-after.ensures in
    record { noted = counted_made views new path edit c.requires.due made name named t found u now c.edit_at-edit.result c.note-2.new.self is c.note-2.ensures.noted }

pub returns-in-Ok-clause-counted : goal.returns-in-Ok-clause-counted
returns-in-Ok-clause-counted c =
    let views = c.args.store.now.views in
    let path = c.args.path.now in
    let edit = edit_of c.args.change in
    let name = c.name-name.result.now in
    let named = c.name-name.ensures in
    let t = c.view-before.result.now in
    let found = ap (λ v. table_of v name) (sym c.views.ensures) ∙ c.view-before.ensures in
    let new = c.edit.new.store.views in
    let made = ap (λ (s : Stored). s.views) c.in-Ok.ensures.ok in
    let u = c.view-after.result.now in
    let now = ap (λ v. table_of v name) (sym c.views-in-Ok.ensures) ∙ c.view-after.ensures in
    c.follow-in-Ok.ensures.kept t.rows views new (c.note-2.ensures.kept views c.requires.counted) (noted_changes views new path edit c.requires.due made name named t found u now)

pub returns-in-Err-clause-counted : goal.returns-in-Err-clause-counted
returns-in-Err-clause-counted c =
    let views = c.args.store.now.views in
    c.forget-in-Err.ensures.kept views c.edit.new.store.views (c.note-2.ensures.kept views c.requires.counted) (λ name other. ap (λ (s : Stored). table_of s.views name) c.in-Err.ensures.err)
