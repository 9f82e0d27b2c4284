use Rattle.std.proofs.Common.{◌≡◌, ◌<◌, ◌^◌, List, ap, sym, subst, ◌∙◌}
use Rattle.watches.specs.Lines.{room_for}
use Rattle.keyed_views.specs.Keyed.{edits_of}
use Rattle.watches.specs.Keeping.{ChangesRows}
use Rattle.watches.proofs.Holding.{kept_over}
use Rattle.kept_counts.proofs.Holding.{counted_but, over_view}
use Rattle.keyed_views.specs.Keeping.{EditsRows}
use Rattle.row_edits.specs.declared.edit.RowEdit.{RowEdit}
use Rattle.storage.specs.Stored.{Stored}
use Rattle.view_store.specs.Views.{table_of}
use Rattle.session.proofs.KeyedFollow.{comes_changes}
use Rattle.session.proofs.KeyedPut.{of_ok}
use Rattle.session.proofs.Room.{keyed_room}
use Rattle.session.proofs.keyed.follow_coming.Goals as goal

pub reserve-requires : goal.reserve-requires
reserve-requires c =
    let edits = c.in_ok-edits.edits in
    let edit = c.args.coming.edit in
    let made : edits ≡ edits_of edit =
    of_ok _ (λ (l : List RowEdit). l ≡ edits_of edit) c.edits.result c.map_err.result edits c.map_err.ensures.cases c.map_err.ensures.variant c.in_ok-edits.was c.edits.ensures in
    record { few = subst (λ (l : List RowEdit). room_for l < 2 ^ 64) (sym (c.as_slice.ensures ∙ made)) (keyed_room edit) }

pub follow_line-requires-clause-kept : goal.follow_line-requires-clause-kept
follow_line-requires-clause-kept c =
    let views = c.args.store.now.views in
    kept_over views c.reserve.new.self c.args.name.now c.in_ok-before.before (c.reserve.ensures.kept views c.requires.watched)
    (ap (λ v. table_of v c.args.name.now) (sym c.views-2.ensures) ∙ c.in_ok-before.ensures.ok)

pub follow_line-requires-2 : goal.follow_line-requires-2
follow_line-requires-2 c = record {
  kept = over_view c.args.store.now.views c.args.counted.now c.args.name.now c.in_ok-before.before c.requires.counted (ap (λ v. table_of v c.args.name.now) (sym c.views-2.ensures) ∙ c.in_ok-before.ensures.ok);
}

pub returns-clause-watched : goal.returns-clause-watched
returns-clause-watched c =
    let views = c.args.store.now.views in
    let name = c.args.name.now in
    let put = ap (λ (s : Stored). s.views) c.put_views.ensures in
    let before = c.in_ok-before.before in
    let after = c.view-after.result.now in
    c.follow_line.ensures.kept views c.put_views.new.self.views (c.reserve.ensures.kept views c.requires.watched)
    (subst (λ v. ChangesRows name before.schema before.rows after.rows views v) (sym put)
    (comes_changes name c.args.coming c.args.mappings.now views c.args.views c.requires.comes before after
    (ap (λ v. table_of v name) (sym c.views-2.ensures) ∙ c.in_ok-before.ensures.ok)
    (ap (λ v. table_of v name) (sym put) ∙ ap (λ v. table_of v name) (sym c.views-3.ensures) ∙ c.view-after.ensures)))

pub returns-clause-kept : goal.returns-clause-kept
returns-clause-kept c =
    let views = c.args.store.now.views in
    let name = c.args.name.now in
    let comes = c.requires.comes in
    let put = ap (λ (s : Stored). s.views) c.put_views.ensures in
    c.follow.ensures.kept views c.put_views.new.self.views comes.rows comes.row c.requires.kept comes.brings
    (subst (λ v. EditsRows name comes.row (edits_of c.args.coming.edit) comes.rows views v) (sym put) comes.edits)

pub returns-clause-counted : goal.returns-clause-counted
returns-clause-counted c =
    let views = c.args.store.now.views in
    let name = c.args.name.now in
    let put = ap (λ (s : Stored). s.views) c.put_views.ensures in
    let before = c.in_ok-before.before in
    let after = c.view-after.result.now in
    let change : ChangesRows name before.schema before.rows after.rows views c.put_views.new.self.views =
    subst (λ v. ChangesRows name before.schema before.rows after.rows views v) (sym put)
    (comes_changes name c.args.coming c.args.mappings.now views c.args.views c.requires.comes before after
    (ap (λ v. table_of v name) (sym c.views-2.ensures) ∙ c.in_ok-before.ensures.ok)
    (ap (λ v. table_of v name) (sym put) ∙ ap (λ v. table_of v name) (sym c.views-3.ensures) ∙ c.view-after.ensures)) in
    c.follow_line-2.ensures.kept views c.put_views.new.self.views (counted_but name views c.args.counted.now c.requires.counted) change
