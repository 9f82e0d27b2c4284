-- A change that is made in place, as the watches of its view follow it.
use Rattle.std.proofs.Common.{◌≡◌, ℕ, ◌<◌, ◌^◌, List, [], ◌∷◌, length, Some, None, Result, Ok, Err, OnOk, IsSome, refl, ap, sym, subst, ◌∙◌, arith}
use Rattle.std.specs.Result.{is_ok}
use Rattle.std.proofs.lemmas.Bool.{false≢true}
use Rattle.watches.specs.Lines.{room_for}
use Rattle.keyed_views.specs.Keyed.{edits_of}
use Rattle.keyed_views.specs.declared.keyed.KeyedEdit.{KeyedEdit}
use Rattle.watches.specs.Keeping.{ChangesRows, HaveNoted, Kept}
use Rattle.watches.specs.Watches.{Followed, followed_by}
use Rattle.kept_counts.specs.Keeping.{AllHaveNoted, Counted}
use Rattle.live.specs.Edits.{room_of}
use Rattle.mk_value.specs.Data.{Datum}
use Rattle.mk_value.specs.Paths.{Route}
use Rattle.mk_value.specs.declared.path.Step.{Step}
use Rattle.row_edits.specs.Edits.{IsInRange, edited}
use Rattle.row_edits.specs.Events.{count_all, count_of}
use Rattle.row_edits.specs.Lines.{row_at}
use Rattle.row_edits.specs.declared.edit.RowEdit.{RowEdit}
use Rattle.tables.specs.Tables.{StoredTable}
use Rattle.view_store.specs.Edits.{Edit}
use Rattle.view_store.specs.Refusals.{due}
use Rattle.view_store.specs.Views.{NamedTable, edited_views, table_of}
use Rattle.session.specs.Changes.{home_of, row_edit_of}
use Rattle.session.specs.Commands.{events_at}
use Rattle.session.specs.Following.{IsLineOn, edit_at, home_at}
use Rattle.session.proofs.LinesOn.{line_on}
use Rattle.session.proofs.Room.{room_few}

some_is : {X : Type 0} (x y : X) → Some x ≡ Some y → x ≡ y
some_is x y e = cc

-- the room for one edit
pub room_one : (e : RowEdit) → room_for (e ∷ []) ≡ room_of e
room_one e = omega arith

module _ (views : List NamedTable) (route : Route) (edit : Edit) (free : due views route edit ≡ None) where
  abbrev on_view : RowEdit
  on_view = edit_at route.steps (row_edit_of edit)

  line : IsLineOn route.name on_view (home_at route.steps (home_of edit)) views (edited_views views route edit)
  line = line_on views route edit free

  view_there : IsSome (table_of views route.name)
  view_there = subst IsSome (sym line.was) refl

  edited_there : IsSome (table_of (edited_views views route edit) route.name)
  edited_there = subst IsSome (sym line.is) refl

  pub room_made : room_for (on_view ∷ []) < 2 ^ 64
  room_made = room_few on_view (length line.before.rows) line.line.in_range.0

  module _ (t : StoredTable) (found : table_of views route.name ≡ Some t) where
    before_is : line.before ≡ t
    before_is = some_is line.before t (sym line.was ∙ found)

    in_range_of : IsInRange on_view (length t.rows)
    in_range_of = subst (λ (u : StoredTable). IsInRange on_view (length u.rows)) before_is line.line.in_range.0

    module _ (u : StoredTable) (now : table_of (edited_views views route edit) route.name ≡ Some u) where
      after_is : line.after ≡ u
      after_is = some_is line.after u (sym line.is ∙ now)

      same_schema : t.schema ≡ u.schema
      same_schema = ap (λ (x : StoredTable). x.schema) (sym before_is) ∙ sym line.schema ∙ ap (λ (x : StoredTable). x.schema) after_is

      abbrev made_row : List Datum
      made_row = row_at line.after.rows (home_at route.steps (home_of edit))

      rows_made : u.rows ≡ edited made_row on_view t.rows
      rows_made =
          ap (λ (x : StoredTable). x.rows) (sym after_is) ∙ line.line.made ∙ ap (λ (x : StoredTable). edited made_row on_view x.rows) before_is

      changes_made : ChangesRows route.name u.schema t.rows u.rows views (edited_views views route edit)
      changes_made = record {
        old_table = t;
        new_table = u;
        was = found;
        is = now;
        schema_before = same_schema;
        schema_after = refl;
        rows_before = refl;
        rows_after = refl;
        others = line.others;
      }

-- What the watches noted of an edit that is made, and what it changed, in the words of the calls that made it.
module _ (views new : List NamedTable) (route : Route) (edit : Edit) (free : due views route edit ≡ None) (made : new ≡ edited_views views route edit) (name : List ℕ) (named : name ≡ route.name) where
  pub named_there : IsSome (table_of views name)
  named_there = subst (λ n. IsSome (table_of views n)) (sym named) (view_there views route edit free)

  pub named_edited : IsSome (table_of new name)
  named_edited = subst (λ n. IsSome (table_of new n)) (sym named) (subst (λ v. IsSome (table_of v route.name)) (sym made) (edited_there views route edit free))

  module _ (t : StoredTable) (found : table_of views name ≡ Some t) where
    was_at : table_of views route.name ≡ Some t
    was_at = subst (λ n. table_of views n ≡ Some t) named found

    pub noted_range : (e : RowEdit) → e ≡ edit_at route.steps (row_edit_of edit) → IsInRange e (length t.rows)
    noted_range e is = subst (λ x. IsInRange x (length t.rows)) (sym is) (in_range_of views route edit free t was_at)

    module _ (u : StoredTable) (now : table_of new name ≡ Some u) where
      is_at : table_of (edited_views views route edit) route.name ≡ Some u
      is_at = subst (λ n. table_of (edited_views views route edit) n ≡ Some u) named (subst (λ v. table_of v name ≡ Some u) made now)

      pub noted_made : (e : RowEdit) (all : List Kept) → e ≡ edit_at route.steps (row_edit_of edit) → HaveNoted name t.schema t.rows e all
          → (before : List (List Datum)) × HaveNoted name u.schema before e all × ((row : List Datum) × (u.rows ≡ edited row e before))
      noted_made e all is noted =
          let row = made_row views route edit free t was_at u is_at in (
            t.rows,
            subst (λ s. HaveNoted name s t.rows e all) (same_schema views route edit free t was_at u is_at) noted,
            (row, subst (λ x. u.rows ≡ edited row x t.rows) (sym is) (rows_made views route edit free t was_at u is_at)),
          )

      pub counted_made : (e : RowEdit) (all : List Counted) → e ≡ edit_at route.steps (row_edit_of edit) → AllHaveNoted name t.schema t.rows e all
          → (before : List (List Datum)) × AllHaveNoted name u.schema before e all × ((row : List Datum) × (u.rows ≡ edited row e before))
      counted_made e all is noted =
          let row = made_row views route edit free t was_at u is_at in (
            t.rows,
            subst (λ s. AllHaveNoted name s t.rows e all) (same_schema views route edit free t was_at u is_at) noted,
            (row, subst (λ x. u.rows ≡ edited row x t.rows) (sym is) (rows_made views route edit free t was_at u is_at)),
          )

      pub noted_changes : ChangesRows name u.schema t.rows u.rows views new
      noted_changes =
          subst (λ n. ChangesRows n u.schema t.rows u.rows views new) (sym named)
          (subst (λ v. ChangesRows route.name u.schema t.rows u.rows views v) (sym made) (changes_made views route edit free t was_at u is_at))

-- how many events an edit is, of the view itself
events_are : (steps : List Step) (edit : Edit) → count_of (edit_at steps (row_edit_of edit)) ≡ events_at steps (count_of (row_edit_of edit))
events_are [] edit = refl
events_are (s ∷ steps) edit = refl

-- the events that the watches of its view followed
pub noted_followed : (route : Route) (edit : Edit) (name : List ℕ) (e : RowEdit) (old noted new : List Followed) → name ≡ route.name → e ≡ edit_at route.steps (row_edit_of edit) → noted ≡ old → new ≡ followed_by noted name (count_of e)
    → new ≡ followed_by old route.name (events_at route.steps (count_of (row_edit_of edit)))
noted_followed route edit name e old noted new named is same made =
    made ∙ ap (λ fs. followed_by fs name (count_of e)) same ∙ ap (λ n. followed_by old n (count_of e)) named
    ∙ ap (followed_by old route.name) (ap count_of is ∙ events_are route.steps edit)

pub one_followed : (steps : List Step) (edit : Edit) (e : KeyedEdit) → steps ≡ [] → edits_of e ≡ row_edit_of edit ∷ [] → events_at steps (count_of (row_edit_of edit)) ≡ count_all (edits_of e)
one_followed steps edit e here one =
    let counted : count_of (row_edit_of edit) ≡ count_all (row_edit_of edit ∷ []) = omega arith in
    ap (λ s. events_at s (count_of (row_edit_of edit))) here ∙ counted ∙ sym (ap count_all one)

-- what is so after a call that went well
pub when_ok : {T E D P : Type 0} (r : Result T E) (s : Result T D) (x : T) → is_ok s ≡ is_ok r → s ≡ Ok x → OnOk r P → P
when_ok (Ok y) s x variant is h = h
when_ok (Err e) s x variant is h = absurd (false≢true (sym variant ∙ ap is_ok is))

pub one_event : (steps : List Step) → events_at steps 1 ≡ 1
one_event [] = refl
one_event (s ∷ steps) = refl
