-- A row that comes to a view by its key, in the session's own terms.
use Rattle.std.proofs.Common.{◌≡◌, ◌+◌, ◌<◌, ◌≤◌, ℕ, true, List, [], ◌∷◌, length, get_or, set, Option, Some, None, Result, Ok, Err, IfOk, OnOk, MatchResult, refl, ap, sym, subst, ◌∙◌, arith}
use Rattle.std.specs.Result.{is_ok}
use Rattle.std.proofs.lemmas.Bool.{false≢true}
use Rattle.std.proofs.lemmas.List.{get_or-set_same, length-set}
use Rattle.std.specs.Option.{is_some}
use Rattle.keyed_views.specs.Keyed.{IsInPlace, edits_of}
use Rattle.keyed_views.specs.declared.keyed.KeyedEdit.{KeyedEdit}
use Rattle.keyed_views.specs.declared.keyed.KeyedEdit.TheVariants.{Remove}
use Rattle.watches.specs.Watches.{Followed, followed_by}
use Rattle.keyed_views.specs.Keeping.{AllBring, AreKept, AreKeptOver, AreReady, EditsRows, mapped}
use Rattle.keyed_views.specs.Mapped.{MappedView, is_mapped, mapping_of, put_edit, row_with as row_of_set, set_edit}
use Rattle.keyed_views.specs.declared.by.By.{By}
use Rattle.keyed_views.specs.declared.coming.Coming.{Coming}
use Rattle.keyed_views.specs.declared.kept.Kept.{Kept}
use Rattle.keyed_views.specs.declared.mappings.ByKeys.{ByKeys}
use Rattle.keyed_views.proofs.Holding.{kept_over}
use Rattle.keyed_views.proofs.Placing.{put_in_place, set_in_place}
use Rattle.mk_value.specs.Data.{AreRowsOf, Datum, IsRowOf}
use Rattle.mk_value.specs.Limits.{max_rows}
use Rattle.mk_value.specs.Paths.{Route}
use Rattle.mk_value.specs.declared.path.Step.{Step}
use Rattle.row_edits.specs.Edits.{edited, edited_by, size_by}
use Rattle.row_edits.specs.Events.{count_all}
use Rattle.row_edits.specs.declared.edit.RowEdit.TheVariants as row_edit
use Rattle.storage.specs.Stored.{Stored, with_views}
use Rattle.tables.specs.Tables.{StoredTable, place_of_property}
use Rattle.view_store.specs.Edits.{Edit, edited_here}
use Rattle.view_store.specs.Refusals.{at_view, due, due_in}
use Rattle.view_store.specs.Views.{NamedTable, edited_views, table_of}
use Rattle.session.specs.Following.{IsLineOn, edit_at, home_at}
use Rattle.session.specs.Keyed.{Comes, IsPut, Sets, StandsBy, edited_in_turn, line_by_key, mapping_as, mapping_at, mapping_on, place_of_set, put_by_key, put_edits, row_with, set_by_key, stand_edits}
use Rattle.session.specs.Values.{rows_named, schema_named, size_named}
use Rattle.session.specs.World.{World}
use Rattle.session.proofs.KeyedKept.{has_keys, is_mapped_at, stands_first}
use Rattle.session.proofs.LinesOn.{in_range, line_on, row_in}
use Rattle.session.proofs.KeyedSet.{SetWhole, set_whole}
use Rattle.session.proofs.KeyedLines.{AllGo, Stands, edited_found, edited_rows, is_put, put_goes, set_goes, sets_at}

some_is : {X : Type 0} (x y : X) → Some x ≡ Some y → x ≡ y
some_is x y e = cc

ok_is : {X E : Type 0} (x y : X) → ◌≡◌ {A = Result X E} (Ok x) (Ok y) → x ≡ y
ok_is x y e = cc

-- what is known of what a call gave, where its error was only told otherwise
pub of_ok : {T E D : Type 0} (Q : E → Type 0) (P : T → Type 0) (r : Result T E) (s : Result T D) (x : T) → MatchResult r (λ y. s ≡ Ok y) Q → is_ok s ≡ is_ok r → s ≡ Ok x → IfOk r P → P x
of_ok Q P (Ok y) s x given variant is h = subst P (ok_is y x (sym given ∙ is)) h
of_ok Q P (Err e) s x given variant is h = absurd (false≢true (sym variant ∙ ap is_ok is))

-- The view of a route is mapped, and has this table.
pub record IsAt (views : List NamedTable) (all : List Kept) (w : World) (route : Route) (keys : ByKeys) (t : StoredTable) : Type 0 where
  pub is : is_mapped (mapped all) route.name ≡ true
  pub mapping : mapping_of (mapped all) route.name ≡ Some (mapping_as route keys)
  pub found : table_of views route.name ≡ Some t
  pub kept : AreKeptOver route.name t.schema t.rows all
  pub schema : schema_named w.store.views route ≡ t.schema
  pub rows : rows_named w.store.views route ≡ t.rows
  pub stands : Stands views views route t.schema t.rows

pub is_at : (views : List NamedTable) (all : List Kept) (w : World) (route : Route) (keys : ByKeys) (t : StoredTable) → views ≡ w.store.views → mapped all ≡ w.mappings → AreKept views all
    → mapping_on w route ≡ Some (mapping_as route keys) → table_of views route.name ≡ Some t → IsAt views all w route keys t
is_at views all w route keys t same_views same_mappings kept mapping found =
    let h = has_keys views all w.mappings route (mapping_as route keys) same_mappings mapping kept in
    let both = is_mapped_at w.mappings route (mapping_as route keys) mapping in
    let table : h.table ≡ t = some_is h.table t (sym h.found ∙ found) in
    record {
      is = ap (λ ms. is_mapped ms route.name) same_mappings ∙ both.1;
      mapping = ap (λ ms. mapping_of ms route.name) same_mappings ∙ both.0;
      found = found;
      kept = kept_over views all route.name t kept found;
      schema = ap (λ v. schema_named v route) (sym same_views) ∙ h.schema ∙ ap (λ (u : StoredTable). u.schema) table;
      rows = ap (λ v. rows_named v route) (sym same_views) ∙ h.rows ∙ ap (λ (u : StoredTable). u.rows) table;
      stands = subst (λ (u : StoredTable). Stands views views route u.schema u.rows) table (stands_first views route h);
    }

module _ (views : List NamedTable) (all : List Kept) (w : World) (route : Route) (keys : ByKeys) (t : StoredTable) (h : IsAt views all w route keys t) where
  pub size_at : size_named w.store.views route ≡ length t.rows
  size_at = ap length h.rows

  -- a row that is put
  pub put_at : (place : ℕ) (row : List Datum) (e : _) → e ≡ put_edit keys.by keys.keys row place t.rows → e ≡ put_by_key (mapping_as route keys) w.store.views route place row
  put_at place row e is = is ∙ ap (put_edit keys.by keys.keys row place) (sym h.rows)

  pub put_places : (place : ℕ) (row : List Datum) (e : _) → e ≡ put_edit keys.by keys.keys row place t.rows → place ≤ size_named w.store.views route → size_by (edits_of e) (length t.rows) ≤ max_rows → IsInPlace e (length t.rows)
  put_places place row e is within few =
      subst (λ x. IsInPlace x (length t.rows)) (sym is)
      (put_in_place keys.by keys.keys place row t.rows (subst (λ n. place ≤ n) size_at within) (subst (λ x. size_by (edits_of x) (length t.rows) ≤ max_rows) is few))

  pub put_all : (place : ℕ) (row : List Datum) (e : _) → e ≡ put_edit keys.by keys.keys row place t.rows → IsRowOf row (schema_named w.store.views route) → place ≤ size_named w.store.views route → length t.rows ≤ max_rows
      → size_by (edits_of e) (length t.rows) ≤ max_rows → AllGo views views route t.schema (edited_by row (edits_of e) t.rows) (put_edits row e)
  put_all place row e is whole within many few =
      put_goes views views route t.schema t.rows row e h.stands (subst (IsRowOf row) h.schema whole) many (put_places place row e is within few)
      (subst IsPut (sym is) (is_put keys.by keys.keys row place t.rows))

  pub put_comes : (place : ℕ) (row : List Datum) (coming : Coming) (others : List Kept) (new : List NamedTable) → coming.edit ≡ put_edit keys.by keys.keys row place t.rows → IsRowOf row (schema_named w.store.views route)
      → place ≤ size_named w.store.views route → length t.rows ≤ max_rows → size_by (edits_of coming.edit) (length t.rows) ≤ max_rows → new ≡ edited_in_turn views route (put_edits row coming.edit)
      → AllBring route.name t.rows row coming others → AreReady route.name coming others → Comes route.name coming others views new
  put_comes place row coming others new is whole within many few made brings ready = record {
    row = row;
    rows = t.rows;
    edits = edited_rows views new route t.schema t.rows row coming.edit (put_edits row coming.edit) h.stands (put_all place row coming.edit is whole within many few) made;
    in_place = put_places place row coming.edit is within few;
    few = many;
    brings = brings;
    ready = ready;
  }

  -- a row that is given a value
  pub set_at : (at : ℕ) (prop : List ℕ) (d : Datum) (row : List Datum) (e : _) → row ≡ set (get_or t.rows at []) (place_of_property t.schema prop) d → e ≡ set_edit keys.by keys.keys row at t.rows
      → (row ≡ row_with w.store.views route at prop d) × (e ≡ set_by_key (mapping_as route keys) w.store.views route at (row_with w.store.views route at prop d))
  set_at at prop d row e row_is is =
      let same : row ≡ row_with w.store.views route at prop d =
      row_is ∙ ap (λ rows. set (get_or rows at []) (place_of_property t.schema prop) d) (sym h.rows) ∙ ap (λ schema. set (get_or (rows_named w.store.views route) at []) (place_of_property schema prop) d) (sym h.schema) in
      (same, is ∙ ap (λ r. set_edit keys.by keys.keys r at t.rows) same ∙ ap (set_edit keys.by keys.keys (row_with w.store.views route at prop d) at) (sym h.rows))

  pub set_all : (at : ℕ) (prop : List ℕ) (d : Datum) (row : List Datum) (e : _) → e ≡ set_edit keys.by keys.keys row at t.rows → IsRowOf row t.schema → at < length t.rows → length t.rows ≤ max_rows
      → due views route (Edit.set at prop d) ≡ None → row ≡ set (get_or t.rows at []) (place_of_property t.schema prop) d
      → AllGo views views route t.schema (edited_by row (edits_of e) t.rows) (Edit.set at prop d ∷ stand_edits row e)
  set_all at prop d row e is whole within many free row_is =
      let sets = sets_at keys.by keys.keys row at t.rows in
      subst (λ x. AllGo views views route t.schema (edited_by row (edits_of x) t.rows) (Edit.set at prop d ∷ stand_edits row x)) (sym is)
      (set_goes views views route t.schema t.rows prop d row at (set_edit keys.by keys.keys row at t.rows) h.stands whole many (set_in_place keys.by keys.keys at row t.rows within) sets.is sets.at free row_is)

  pub set_comes : (at : ℕ) (prop : List ℕ) (d : Datum) (row : List Datum) (coming : Coming) (others : List Kept) (new : List NamedTable) → coming.edit ≡ set_edit keys.by keys.keys row at t.rows → IsRowOf row t.schema
      → at < length t.rows → length t.rows ≤ max_rows → due views route (Edit.set at prop d) ≡ None → row ≡ set (get_or t.rows at []) (place_of_property t.schema prop) d
      → new ≡ edited_in_turn views route (Edit.set at prop d ∷ stand_edits row coming.edit) → AllBring route.name t.rows row coming others → AreReady route.name coming others → Comes route.name coming others views new
  set_comes at prop d row coming others new is whole within many free row_is made brings ready = record {
    row = row;
    rows = t.rows;
    edits = edited_rows views new route t.schema t.rows row coming.edit (Edit.set at prop d ∷ stand_edits row coming.edit) h.stands (set_all at prop d row coming.edit is whole within many free row_is) made;
    in_place = subst (λ x. IsInPlace x (length t.rows)) (sym is) (set_in_place keys.by keys.keys at row t.rows within);
    few = many;
    brings = brings;
    ready = ready;
  }

-- the world after a line
pub line_made : (inside w : World) (route : Route) (e : KeyedEdit) (edits : List Edit) (new : List NamedTable) (store : Stored) (watches : List Followed) (mappings : List MappedView) → inside ≡ w
    → new ≡ edited_in_turn inside.store.views route edits → store ≡ with_views inside.store new → watches ≡ followed_by inside.watches route.name (count_all (edits_of e)) → mappings ≡ inside.mappings
    → record inside { store = store; watches = watches; mappings = mappings } ≡ line_by_key w route e edits
line_made inside w route e edits new store watches mappings same made store_is watches_is mappings_is =
    let s = with_views inside.store (edited_in_turn inside.store.views route edits) in
    let ws = followed_by inside.watches route.name (count_all (edits_of e)) in
    ap (λ x. record inside { store = x; watches = watches; mappings = mappings }) (store_is ∙ ap (with_views inside.store) made)
    ∙ ap (λ x. record inside { store = s; watches = x; mappings = mappings }) watches_is
    ∙ ap (λ x. record inside { store = s; watches = ws; mappings = x }) mappings_is
    ∙ ap (λ x. line_by_key x route e edits) same

-- What setting a value of a row leaves in its view.
pub record SetIn (views : List NamedTable) (route : Route) (at : ℕ) (prop : List ℕ) (d : Datum) (t : StoredTable) : Type 0 where
  pub within : at < length t.rows
  pub after : StoredTable
  pub found : table_of (edited_views views route (Edit.set at prop d)) route.name ≡ Some after
  pub schema : after.schema ≡ t.schema
  pub rows : after.rows ≡ set t.rows at (set (get_or t.rows at []) (place_of_property t.schema prop) d)

pub set_in : (views : List NamedTable) (route : Route) (at : ℕ) (prop : List ℕ) (d : Datum) (t : StoredTable) → route.steps ≡ [] → table_of views route.name ≡ Some t → due views route (Edit.set at prop d) ≡ None
    → SetIn views route at prop d t
set_in views route at prop d t here found free =
    let edit = Edit.set at prop d in
    let inside : due_in t [] edit ≡ None = sym (ap (λ steps. due_in t steps edit) here) ∙ sym (ap (λ o. at_view o (λ u. due_in u route.steps edit)) found) ∙ free in
    record {
      within = row_in (length t.rows) at (in_range t edit inside);
      after = edited_here edit t;
      found = edited_found views route edit t here found;
      schema = refl;
      rows = refl;
    }

-- A view of which a row may be given a value: as it is, and what that leaves of it.
pub record MaySetAt (views : List NamedTable) (all : List Kept) (w : World) (route : Route) (keys : ByKeys) (t : StoredTable) (at : ℕ) (prop : List ℕ) (d : Datum) : Type 0 where
  pub view : IsAt views all w route keys t
  pub free : due views route (Edit.set at prop d) ≡ None
  pub left : SetIn views route at prop d t
  pub whole : SetWhole t at prop d

pub may_set_at : (views : List NamedTable) (all : List Kept) (w : World) (route : Route) (keys : ByKeys) (t : StoredTable) (at : ℕ) (prop : List ℕ) (d : Datum) → views ≡ w.store.views → mapped all ≡ w.mappings → AreKept views all
    → mapping_on w route ≡ Some (mapping_as route keys) → table_of views route.name ≡ Some t → due w.store.views route (Edit.set at prop d) ≡ None → AreRowsOf t.rows t.schema → MaySetAt views all w route keys t at prop d
may_set_at views all w route keys t at prop d same_views same_mappings kept mapping found due_none rows =
    let view = is_at views all w route keys t same_views same_mappings kept mapping found in
    let free = subst (λ v. due v route (Edit.set at prop d) ≡ None) (sym same_views) due_none in
    let left = set_in views route at prop d t view.stands.here found free in
    record { view = view; free = free; left = left; whole = set_whole views route at prop d t view.stands.here found free rows left.within }

-- what sets a row is its edit
pub set_sets : (by : By) (keys : ℕ) (row : List Datum) (rows : List (List Datum)) (i : ℕ) (prop : List ℕ) (d : Datum) (e : KeyedEdit) → e ≡ set_edit by keys row i rows → Sets e (Edit.set i prop d)
set_sets by keys row rows i prop d e is =
    let sets = sets_at by keys row i rows in
    subst (λ x. Sets x (Edit.set i prop d)) (sym is) (record { prop = prop; value = d; is = sets.is; made = ap (λ k. Edit.set k prop d) (sym sets.at) })

-- a row that is given a value, and may stand by its key
module _ (views : List NamedTable) (all : List Kept) (w : World) (route : Route) (keys : ByKeys) (t : StoredTable) (h : IsAt views all w route keys t) where
  pub stands_by : (at : ℕ) (prop : List ℕ) (d : Datum) (coming : Coming) (others : List Kept) → coming.edit ≡ set_edit keys.by keys.keys (row_of_set t.schema t.rows at prop d) at t.rows → IsRowOf (row_of_set t.schema t.rows at prop d) t.schema
      → SetIn views route at prop d t → length t.rows ≤ max_rows → due views route (Edit.set at prop d) ≡ None → AllBring route.name t.rows (row_of_set t.schema t.rows at prop d) coming others → AreReady route.name coming others
      → StandsBy (row_of_set t.schema t.rows at prop d) route coming (Edit.set at prop d) others views
  stands_by at prop d coming others is whole s many free brings ready =
      let row = row_of_set t.schema t.rows at prop d in
      let sets = sets_at keys.by keys.keys row at t.rows in
      let place : place_of_set coming.edit ≡ at = ap place_of_set is ∙ sets.at in
      let long = length-set t.rows at row in
      let size = ap length s.rows in
      let within = s.within in
      record {
        there = record {
          table = s.after;
          found = s.found;
          is = sym (ap (λ k. get_or s.after.rows k []) place ∙ ap (λ rows. get_or rows at []) s.rows ∙ get_or-set_same t.rows at row [] s.within);
          whole = subst (IsRowOf row) (sym s.schema) whole;
        };
        stood = (s.after, s.found, omega arith);
        allowed = (set_all views all w route keys t h at prop d row coming.edit is whole s.within many free refl).allowed;
        comes =
            set_comes views all w route keys t h at prop d row coming others (edited_in_turn views route (Edit.set at prop d ∷ stand_edits row coming.edit)) is whole s.within many free refl refl brings ready;
      }

-- rows that go
some_of : {X : Type 0} (o : Option X) → is_some o ≡ true → (x : X) × (o ≡ Some x)
some_of (Some x) e = (x, refl)
some_of None e = absurd (false≢true e)

pub gone_at : (views : List NamedTable) (all : List Kept) (w : World) (route : Route) → mapped all ≡ w.mappings → is_some (mapping_on w route) ≡ true → is_mapped (mapped all) route.name ≡ true
gone_at views all w route same some =
    let m = some_of (mapping_on w route) some in ap (λ ms. is_mapped ms route.name) same ∙ (is_mapped_at w.mappings route m.0 m.1).1

pub gone_here : (mappings : List MappedView) (route : Route) → is_some (mapping_at mappings route.name route.steps) ≡ true → route.steps ≡ []
gone_here mappings route some = no_steps route.steps some
  where
    no_steps : (steps : List Step) → is_some (mapping_at mappings route.name steps) ≡ true → steps ≡ []
    no_steps [] e = refl
    no_steps (s ∷ steps) e = absurd (false≢true e)

pub gone_comes : (views new : List NamedTable) (route : Route) (t : StoredTable) (place n : ℕ) (coming : Coming) (others : List Kept) → route.steps ≡ [] → table_of views route.name ≡ Some t → due views route (Edit.remove place n) ≡ None
    → new ≡ edited_views views route (Edit.remove place n) → coming.edit ≡ Remove place n → length t.rows ≤ max_rows → AllBring route.name t.rows [] coming others → AreReady route.name coming others
    → Comes route.name coming others views new
gone_comes views new route t place n coming others here found free made is many brings ready =
    let line = subst (λ steps. IsLineOn route.name (edit_at steps (row_edit.Remove place n)) (home_at steps 0) views (edited_views views route (Edit.remove place n))) here (line_on views route (Edit.remove place n) free) in
    let same : line.before ≡ t = some_is line.before t (sym line.was ∙ found) in
    let rows = ap (λ (u : StoredTable). u.rows) same in
    record {
      row = [];
      rows = t.rows;
      edits = subst (λ v. EditsRows route.name [] (edits_of coming.edit) t.rows views v) (sym made) (record {
        before = line.before;
        after = line.after;
        was = line.was;
        is = line.is;
        schema = line.schema;
        rows_before = rows;
        rows_after = subst (λ e. line.after.rows ≡ edited_by [] (edits_of e) t.rows) (sym is) (line.line.made ∙ ap (edited [] (row_edit.Remove place n)) rows);
        others = line.others;
      });
      in_place = subst (λ e. IsInPlace e (length t.rows)) (sym is) (subst (λ k. place + n ≤ k) (ap length rows) line.line.in_range.0);
      few = many;
      brings = brings;
      ready = ready;
    }

pub on_both : {T E P Q R : Type 0} (r : Result T E) → OnOk r P → OnOk r Q → (P → Q → R) → OnOk r R
on_both (Ok x) p q both = both p q
on_both (Err e) p q both = tt
