-- A row that is given a value, and then stands by its key: what that is as edits, and what the views are then.
use Rattle.std.proofs.Common.{◌≡◌, ℕ, zero, suc, ◌<◌, List, [], ◌∷◌, length, get_or, set, Option, Some, None, IsSome, refl, ap, sym, subst, ◌∙◌}
use Rattle.std.specs.Option.{option_or, unwrap_or}
use Rattle.keyed_views.specs.Keyed.{edits_of}
use Rattle.keyed_views.specs.declared.keyed.KeyedEdit.{KeyedEdit}
use Rattle.keyed_views.specs.declared.keyed.KeyedEdit.TheVariants.{Put, Replace, Change, Move, Remove}
use Rattle.keyed_views.specs.declared.coming.Coming.{Coming}
use Rattle.keyed_views.specs.declared.kept.Kept.{Kept}
use Rattle.keyed_views.specs.Mapped.{row_with}
use Rattle.mk_value.specs.Data.{AreRowsOf, Datum, IsOf, IsRowOf}
use Rattle.mk_value.specs.Heading.{Attribute, find}
use Rattle.mk_value.specs.Tables.{domain_at}
use Rattle.mk_value.specs.Paths.{Route}
use Rattle.row_edits.specs.declared.edit.RowEdit.TheVariants as row_edit
use Rattle.tables.specs.Tables.{StoredTable}
use Rattle.view_store.specs.Edits.{Edit}
use Rattle.view_store.specs.Refusals.{at_view, due, due_in, range_refusal, value_refusal}
use Rattle.view_store.specs.Views.{NamedTable, edited_views, table_of}
use Rattle.view_store.specs.declared.error.EditError.TheVariants.{NoProp}
use Rattle.view_store.proofs.Editing.{may_set}
use Rattle.session.specs.Changes.{row_edit_of}
use Rattle.session.specs.Keyed.{AreAllowed, IsRowIn, Sets, StandsBy, edited_in_turn, place_of_set, stand_edits}

-- the row stays where it is, and no other goes: that is one edit
alone : (e : KeyedEdit) (at : ℕ) (other : Option ℕ) → e ≡ Change at other → other ≡ None → e ≡ Change at None
alone e at other change none = change ∙ ap (Change at) none

pub one_change : (e : KeyedEdit) (edit : Edit) (at : ℕ) (other : Option ℕ) → Sets e edit → e ≡ Change at other → other ≡ None → edits_of e ≡ row_edit_of edit ∷ []
one_change e edit at other sets change none =
    let is = alone e at other change none in
    ap edits_of is ∙ ap (λ k. row_edit.Change k ∷ []) (sym (ap place_of_set is)) ∙ ap (λ (x : Edit). row_edit_of x ∷ []) (sym sets.made)

pub changed_alone : (views : List NamedTable) (route : Route) (edit : Edit) (row : List Datum) (e : KeyedEdit) (at : ℕ) (other : Option ℕ) → e ≡ Change at other → other ≡ None
    → edited_in_turn views route (edit ∷ stand_edits row e) ≡ edited_views views route edit
changed_alone views route edit row e at other change none = ap (λ x. edited_in_turn views route (edit ∷ stand_edits row x)) (alone e at other change none)

-- only a row that moves is put in again
pub stays_put : (r s : List Datum) (e : KeyedEdit) → ((at : ℕ) (other : Option ℕ) (to : ℕ) → e ≡ Move at other to → ⊥) → stand_edits r e ≡ stand_edits s e
stays_put r s (Put at) move = refl
stays_put r s (Replace at) move = refl
stays_put r s (Change at other) move = refl
stays_put r s (Move at other to) move = absurd (move at other to refl)
stays_put r s (Remove at n) move = refl

-- several edits, one after another: the row that was given the value is in the views that the first one made
module _ (views made : List NamedTable) (route : Route) (coming : Coming) (edit : Edit) (all : List Kept) (name : List ℕ) (copy row : List Datum) (is : made ≡ edited_views views route edit) (named : name ≡ route.name)
    (copied : (r : List Datum) → IsRowIn made name (place_of_set coming.edit) r → stand_edits copy coming.edit ≡ stand_edits r coming.edit) (s : StandsBy row route coming edit all views) where
  same_edits : stand_edits copy coming.edit ≡ stand_edits row coming.edit
  same_edits =
      copied row (subst (λ n. IsRowIn made n (place_of_set coming.edit) row) (sym named) (subst (λ v. IsRowIn v route.name (place_of_set coming.edit) row) (sym is) s.there))

  pub may_stand : AreAllowed made route (stand_edits copy coming.edit)
  may_stand =
      subst (λ v. AreAllowed v route (stand_edits copy coming.edit)) (sym is)
      (subst (AreAllowed (edited_views views route edit) route) (sym same_edits) s.allowed.1)

  pub stood : (new : List NamedTable) → new ≡ edited_in_turn made route (stand_edits copy coming.edit) → new ≡ edited_in_turn views route (edit ∷ stand_edits row coming.edit)
  stood new then =
      then ∙ ap (λ v. edited_in_turn v route (stand_edits copy coming.edit)) is ∙ ap (edited_in_turn (edited_views views route edit) route) same_edits

-- a row of a schema is one with another value that fits
pub set_row_fits : (row : List Datum) (schema : List Attribute) (k : ℕ) (d : Datum) → IsRowOf row schema → IsOf d (domain_at schema k) → IsRowOf (set row k d) schema
set_row_fits [] [] k d h fits = tt
set_row_fits [] (a ∷ schema) k d h fits = absurd h
set_row_fits (x ∷ row) [] k d h fits = absurd h
set_row_fits (x ∷ row) (a ∷ schema) zero d h fits = (fits, h.1)
set_row_fits (x ∷ row) (a ∷ schema) (suc k) d h fits = (h.0, set_row_fits row schema k d h.1 fits)

-- a value that may be set: its property is there, and with it the row is one of the schema
pub record SetWhole (t : StoredTable) (i : ℕ) (prop : List ℕ) (d : Datum) : Type 0 where
  pub named : IsSome (find t.schema prop)
  pub whole : IsRowOf (row_with t.schema t.rows i prop d) t.schema

set_whole_at : (t : StoredTable) (i : ℕ) (prop : List ℕ) (d : Datum) (o : Option ℕ) → find t.schema prop ≡ o → AreRowsOf t.rows t.schema → i < length t.rows → due_in t [] (Edit.set i prop d) ≡ None → SetWhole t i prop d
set_whole_at t i prop d None e rows within free =
    absurd (let f : Some NoProp ≡ None = sym (ap (λ o. option_or (value_refusal t.schema o d) (range_refusal (length t.rows) (Edit.set i prop d))) e) ∙ free in cc)
set_whole_at t i prop d (Some k) e rows within free = record {
  named = subst IsSome (sym e) refl;
  whole =
      subst (λ j. IsRowOf (set (get_or t.rows i []) j d) t.schema) (sym (ap (λ o. unwrap_or o 0) e))
      (set_row_fits (get_or t.rows i []) t.schema k d (rows.whole i [] within) (may_set t i k prop d e free).fits);
}

pub set_whole : (views : List NamedTable) (route : Route) (i : ℕ) (prop : List ℕ) (d : Datum) (t : StoredTable) → route.steps ≡ [] → table_of views route.name ≡ Some t → due views route (Edit.set i prop d) ≡ None
    → AreRowsOf t.rows t.schema → i < length t.rows → SetWhole t i prop d
set_whole views route i prop d t here found free rows within =
    let edit = Edit.set i prop d in
    let inside : due_in t [] edit ≡ None = sym (ap (λ steps. due_in t steps edit) here) ∙ sym (ap (λ o. at_view o (λ u. due_in u route.steps edit)) found) ∙ free in
    set_whole_at t i prop d (find t.schema prop) refl rows within inside
