-- Edits of a view one after another, as edits of its rows.
use Rattle.std.proofs.Common.{◌≡◌, ℕ, zero, suc, ◌+◌, ◌-◌, ◌^◌, ◌<◌, ◌≤◌, Bool, true, false, cond, ◌&&◌, ltb, eqb, List, [], ◌∷◌, ◌++◌, length, get_or, set, take, drop, map, Option, Some, None, inl, inr, refl, ap, sym, subst, ◌∙◌, arith}
use Rattle.std.specs.List.{Contains}
use Rattle.std.specs.Option.{option_or}
use Rattle.std.proofs.Math.Nat.{eq-or-lt_of_le}
use Rattle.std.proofs.lemmas.Bool.Decides.{nat_tests}
use Rattle.std.proofs.lemmas.List.{append-nil, length-append, length-drop, length-set, length-take-le}
use Rattle.std.proofs.lemmas.List.Elements.{All-contains}
use Rattle.keyed_views.specs.Keyed.{IsInPlace, edits_of, moved_to, put_by, put_ordered, set_ordered}
use Rattle.keyed_views.specs.declared.keyed.KeyedEdit.{KeyedEdit}
use Rattle.keyed_views.specs.declared.keyed.KeyedEdit.TheVariants.{Put, Replace, Change, Move, Remove}
use Rattle.live.specs.Placing.{closed, closed_by}
use Rattle.mk_value.specs.Data.{Datum, IsRowOf, default_of}
use Rattle.mk_value.specs.Heading.{Attribute}
use Rattle.mk_value.specs.Limits.{max_rows}
use Rattle.mk_value.specs.Names.{same_bytes}
use Rattle.mk_value.specs.Paths.{Route}
use Rattle.row_edits.specs.Edits as rows
use Rattle.row_edits.specs.Events.{count_all}
use Rattle.row_edits.specs.declared.edit.RowEdit.TheVariants as row_edit
use Rattle.tables.specs.Homes.{PlainColumn}
use Rattle.tables.specs.Rests.{Rest}
use Rattle.tables.specs.Rows.{completed}
use Rattle.tables.specs.Tables.{StoredTable, place_of_property}
use Rattle.view_store.specs.Edits.{Edit, edited, edited_here}
use Rattle.view_store.specs.Fitting.{are_of}
use Rattle.view_store.specs.Refusals.{at_view, due, due_in, range_refusal}
use Rattle.view_store.proofs.Fitting.{is_of_tells}
use Rattle.view_store.specs.Rests.{ViewsRestOn}
use Rattle.view_store.specs.Views.{NamedTable, edited_views, table_of}
use Rattle.view_store.specs.declared.error.EditError.TheVariants.{NoProp, WrongKind, OutOfRange, TooMany}
use Rattle.mapped.specs.Index.{row_of}
use Rattle.mapped.specs.Keys.{has_key, keys_of, rows_below}
use Rattle.keyed_views.specs.Keeping.{EditsRows}
use Rattle.keyed_views.specs.Mapped.{put_edit, set_edit}
use Rattle.keyed_views.specs.declared.by.By.{By}
use Rattle.keyed_views.specs.declared.by.By.TheVariants.{Hash, Order}
use Rattle.relations.proofs.Faults.{cases}
use Rattle.session.specs.Keyed.{AreAllowed, IsPut, IsRowIn, IsSet, edited_in_turn, place_of_set, put_edits, stand_edits}
use Rattle.session.proofs.LinesOn.{found_edited, other_edited}

-- views rest on those on which others rest on which they rest
rest_on_rest : (a b c : List PlainColumn) → Rest c b → Rest b a → Rest c a
rest_on_rest a b c second first = record {
  kept = λ k d p. All-contains (λ x. Contains a x) b (get_or c k d) first.kept (second.kept k d p);
  apart = λ h. second.apart (first.apart h);
}

pub rests_in_turn : (a b c : List NamedTable) → ViewsRestOn c b → ViewsRestOn b a → ViewsRestOn c a
rests_in_turn a b c second first = rest_on_rest _ _ _ second first

-- views, of which the one of a route has this schema and these rows, and each other is as at first
pub record Stands (base root : List NamedTable) (route : Route) (schema : List Attribute) (lines : List (List Datum)) : Type 0 where
  pub here : route.steps ≡ []
  pub table : StoredTable
  pub found : table_of root route.name ≡ Some table
  pub schema_is : table.schema ≡ schema
  pub rows_is : table.rows ≡ lines
  pub others : (name : List ℕ) → same_bytes name route.name ≡ false → table_of root name ≡ table_of base name

-- an edit of it that is due no refusal, and what it leaves
pub record Goes (base root : List NamedTable) (route : Route) (schema : List Attribute) (lines : List (List Datum)) (edit : Edit) : Type 0 where
  pub free : due root route edit ≡ None
  pub then : Stands base (edited_views root route edit) route schema lines

pub edited_found : (root : List NamedTable) (route : Route) (edit : Edit) (t : StoredTable) → route.steps ≡ [] → table_of root route.name ≡ Some t
    → table_of (edited_views root route edit) route.name ≡ Some (edited_here edit t)
edited_found root route edit t here found = found_edited root route edit t found ∙ ap (λ steps. Some (edited steps edit t)) here

free_of : (root : List NamedTable) (route : Route) (edit : Edit) (t : StoredTable) → route.steps ≡ [] → table_of root route.name ≡ Some t → due_in t [] edit ≡ None → due root route edit ≡ None
free_of root route edit t here found free =
    ap (λ o. at_view o (λ t. due_in t route.steps edit)) found ∙ ap (λ steps. due_in t steps edit) here ∙ free

not_below : (a b : ℕ) → b ≤ a → ltb a b ≡ false
not_below a b h = grind (arith, nat_tests)

is_below : (a b : ℕ) → a < b → ltb a b ≡ true
is_below a b h = grind (arith, nat_tests)

whole_row : (schema : List Attribute) (row : List Datum) → length row ≡ length schema → completed schema row ≡ row
whole_row schema row h =
    ap (λ (rest : List Attribute). row ++ map (λ (a : Attribute). default_of a.domain) rest) (none_left schema (length row) (sym h)) ∙ append-nil row
  where
    none_left : (xs : List Attribute) (n : ℕ) → length xs ≡ n → drop n xs ≡ []
    none_left [] zero e = refl
    none_left [] (suc n) e = absurd (omega (arith, e))
    none_left (x ∷ xs) zero e = absurd (omega (arith, e))
    none_left (x ∷ xs) (suc n) e = none_left xs n (omega (arith, e))

-- a row of a schema is as long as it, and its values fit
row_long : (row : List Datum) (schema : List Attribute) → IsRowOf row schema → length row ≡ length schema
row_long [] [] h = refl
row_long [] (a ∷ schema) h = absurd h
row_long (d ∷ row) [] h = absurd h
row_long (d ∷ row) (a ∷ schema) h = ap suc (row_long row schema h.1)

row_fits : (row : List Datum) (schema : List Attribute) → IsRowOf row schema → are_of row schema ≡ true
row_fits [] [] h = refl
row_fits [] (a ∷ schema) h = absurd h
row_fits (d ∷ row) [] h = absurd h
row_fits (d ∷ row) (a ∷ schema) h = ap (λ b. b && are_of row schema) ((is_of_tells d a.domain).1 h.0) ∙ row_fits row schema h.1

-- a whole row comes
free_insert : (t : StoredTable) (at : ℕ) (row : List Datum) → length row ≡ length t.schema → are_of row t.schema ≡ true → at ≤ length t.rows → length t.rows < max_rows
    → due_in t [] (Edit.insert at row 1) ≡ None
free_insert t at row long fits within room =
    ap (λ b. option_or (cond b (Some NoProp) (cond (are_of row t.schema) None (Some WrongKind))) (range_refusal (length t.rows) (Edit.insert at row 1))) (not_below (length t.schema) (length row) (omega (arith, long)))
    ∙ ap (λ b. option_or (cond b None (Some WrongKind)) (range_refusal (length t.rows) (Edit.insert at row 1))) fits
    ∙ ap (λ b. cond b (Some (OutOfRange (length t.rows))) (cond (ltb max_rows (length t.rows + 1)) (Some (TooMany (length t.rows + 1))) None)) (not_below (length t.rows) at within)
    ∙ ap (λ b. cond b (Some (TooMany (length t.rows + 1))) None) (not_below max_rows (length t.rows + 1) (omega (arith, room)))

pub goes_insert : (base root : List NamedTable) (route : Route) (schema : List Attribute) (lines : List (List Datum)) (at : ℕ) (row : List Datum) → Stands base root route schema lines
    → IsRowOf row schema → at ≤ length lines → length lines < max_rows
    → Goes base root route schema (rows.edited row (row_edit.Insert at 1) lines) (Edit.insert at row 1)
goes_insert base root route schema lines at row s whole within room =
    let long = row_long row schema whole in
    let fits = row_fits row schema whole in
    let size : length s.table.rows ≡ length lines = ap length s.rows_is in
    let wide : length row ≡ length s.table.schema = long ∙ ap length (sym s.schema_is) in
    let fit : are_of row s.table.schema ≡ true = ap (are_of row) s.schema_is ∙ fits in
    record {
      free = free_of root route (Edit.insert at row 1) s.table s.here s.found (free_insert s.table at row wide fit (omega (arith, within, size)) (omega (arith, room, size)));
      then = record {
        here = s.here;
        table = edited_here (Edit.insert at row 1) s.table;
        found = edited_found root route (Edit.insert at row 1) s.table s.here s.found;
        schema_is = s.schema_is;
        rows_is = ap (λ r. rows.edited r (row_edit.Insert at 1) s.table.rows) (whole_row s.table.schema row wide) ∙ ap (rows.edited row (row_edit.Insert at 1)) s.rows_is;
        others = λ name other. other_edited root route (Edit.insert at row 1) name other ∙ s.others name other;
      };
    }

-- a row goes
free_remove : (t : StoredTable) (at : ℕ) → at < length t.rows → due_in t [] (Edit.remove at 1) ≡ None
free_remove t at within = ap (λ b. cond b (Some (OutOfRange (length t.rows))) None) (not_below (length t.rows) (at + 1) (omega (arith, within)))

pub goes_remove : (base root : List NamedTable) (route : Route) (schema : List Attribute) (lines : List (List Datum)) (at : ℕ) (row : List Datum) → Stands base root route schema lines → at < length lines
    → Goes base root route schema (rows.edited row (row_edit.Remove at 1) lines) (Edit.remove at 1)
goes_remove base root route schema lines at row s within =
    let size : length s.table.rows ≡ length lines = ap length s.rows_is in
    record {
      free = free_of root route (Edit.remove at 1) s.table s.here s.found (free_remove s.table at (omega (arith, within, size)));
      then = record {
        here = s.here;
        table = edited_here (Edit.remove at 1) s.table;
        found = edited_found root route (Edit.remove at 1) s.table s.here s.found;
        schema_is = s.schema_is;
        rows_is = ap (rows.edited row (row_edit.Remove at 1)) s.rows_is;
        others = λ name other. other_edited root route (Edit.remove at 1) name other ∙ s.others name other;
      };
    }

-- a row is given a value
pub goes_set : (base root : List NamedTable) (route : Route) (schema : List Attribute) (lines : List (List Datum)) (at : ℕ) (prop : List ℕ) (d : Datum) (row : List Datum) → Stands base root route schema lines
    → due root route (Edit.set at prop d) ≡ None → row ≡ set (get_or lines at []) (place_of_property schema prop) d
    → Goes base root route schema (rows.edited row (row_edit.Change at) lines) (Edit.set at prop d)
goes_set base root route schema lines at prop d row s free is = record {
  free = free;
  then = record {
    here = s.here;
    table = edited_here (Edit.set at prop d) s.table;
    found = edited_found root route (Edit.set at prop d) s.table s.here s.found;
    schema_is = s.schema_is;
    rows_is = ap (λ sc. set s.table.rows at (set (get_or s.table.rows at []) (place_of_property sc prop) d)) s.schema_is
        ∙ ap (λ ls. set ls at (set (get_or ls at []) (place_of_property schema prop) d)) s.rows_is
        ∙ ap (set lines at) (sym is);
    others = λ name other. other_edited root route (Edit.set at prop d) name other ∙ s.others name other;
  };
}

-- Sizes.
size_removed : (lines : List (List Datum)) (at : ℕ) (row : List Datum) → at < length lines → length (rows.edited row (row_edit.Remove at 1) lines) ≡ length lines - 1
size_removed lines at row h =
    let a = length-append (take at lines) (drop (at + 1) lines) in
    let b = length-take-le at lines (omega (arith, h)) in
    let c = length-drop (at + 1) lines in
    omega (arith, a, b, c, h)

size_changed : (lines : List (List Datum)) (at : ℕ) (row : List Datum) → length (rows.edited row (row_edit.Change at) lines) ≡ length lines
size_changed lines at row = length-set lines at row

-- What edits one after another leave.
pub record AllGo (base root : List NamedTable) (route : Route) (schema : List Attribute) (lines : List (List Datum)) (edits : List Edit) : Type 0 where
  pub allowed : AreAllowed root route edits
  pub then : Stands base (edited_in_turn root route edits) route schema lines

one_goes : (base root : List NamedTable) (route : Route) (schema : List Attribute) (lines : List (List Datum)) (e : Edit) → Goes base root route schema lines e → AllGo base root route schema lines (e ∷ [])
one_goes base root route schema lines e g = record { allowed = (g.free, tt); then = g.then }

more_go : (base root : List NamedTable) (route : Route) (schema : List Attribute) (lines after : List (List Datum)) (e : Edit) (edits : List Edit) → Goes base root route schema lines e
    → AllGo base (edited_views root route e) route schema after edits → AllGo base root route schema after (e ∷ edits)
more_go base root route schema lines after e edits g rest = record { allowed = (g.free, rest.allowed); then = rest.then }

replaced : (base root : List NamedTable) (route : Route) (schema : List Attribute) (lines : List (List Datum)) (gone at : ℕ) (row : List Datum) → Stands base root route schema lines
    → IsRowOf row schema → gone < length lines → at < length lines → length lines ≤ max_rows
    → AllGo base root route schema (rows.edited_by row (row_edit.Remove gone 1 ∷ row_edit.Insert at 1 ∷ []) lines) (Edit.remove gone 1 ∷ Edit.insert at row 1 ∷ [])
replaced base root route schema lines gone at row s whole within there room =
    let first = goes_remove base root route schema lines gone row s within in
    let size = size_removed lines gone row within in
    more_go base root route schema (rows.edited row (row_edit.Remove gone 1) lines) _ (Edit.remove gone 1) (Edit.insert at row 1 ∷ []) first
    (one_goes base (edited_views root route (Edit.remove gone 1)) route schema _ (Edit.insert at row 1)
    (goes_insert base (edited_views root route (Edit.remove gone 1)) route schema (rows.edited row (row_edit.Remove gone 1) lines) at row first.then whole (omega (arith, size, there)) (omega (arith, size, within, room))))

-- a row is put by its key
pub put_goes : (base root : List NamedTable) (route : Route) (schema : List Attribute) (lines : List (List Datum)) (row : List Datum) (e : KeyedEdit) → Stands base root route schema lines
    → IsRowOf row schema → length lines ≤ max_rows → IsInPlace e (length lines) → IsPut e
    → AllGo base root route schema (rows.edited_by row (edits_of e) lines) (put_edits row e)
put_goes base root route schema lines row (Put at) s whole few places is =
    one_goes base root route schema _ (Edit.insert at row 1) (goes_insert base root route schema lines at row s whole places.0 places.1)
put_goes base root route schema lines row (Replace at) s whole few places is = replaced base root route schema lines at at row s whole places places few
put_goes base root route schema lines row (Change at other) s whole few places is = absurd is
put_goes base root route schema lines row (Move at other to) s whole few places is = absurd is
put_goes base root route schema lines row (Remove at n) s whole few places is = absurd is

-- where a row stands once another is gone
closed_in : (k at size : ℕ) → k < size → at < size → (k ≡ at → ⊥) → closed k at < size - 1
closed_in k at size p q other = cases (ltb k at)
    (λ e. let below = sure k at e in subst (λ n. n < size - 1) (sym (ap (λ b. cond b (at - 1) at) e)) (omega (arith, below, q)))
    (λ e. let past = not_sure k at e in
    elim (eq-or-lt_of_le past) [
      | inl h ↦ absurd (other (sym h))
      | inr h ↦ subst (λ n. n < size - 1) (sym (ap (λ b. cond b (at - 1) at) e)) (omega (arith, p, h))
    ])
  where
    sure : (a b : ℕ) → ltb a b ≡ true → a < b
    sure a b e = grind (arith, nat_tests)

    not_sure : (a b : ℕ) → ltb a b ≡ false → b ≤ a
    not_sure a b e = grind (arith, nat_tests)

-- a row is given a value, and then stands by its key
stands : (base root : List NamedTable) (route : Route) (schema : List Attribute) (lines : List (List Datum)) (prop : List ℕ) (d : Datum) (row : List Datum) (e : KeyedEdit) → Stands base root route schema lines
    → IsRowOf row schema → length lines ≤ max_rows → IsInPlace e (length lines) → IsSet e → due root route (Edit.set (place_of_set e) prop d) ≡ None
    → row ≡ set (get_or lines (place_of_set e) []) (place_of_property schema prop) d
    → AllGo base root route schema (rows.edited_by row (edits_of e) lines) (Edit.set (place_of_set e) prop d ∷ stand_edits row e)
stands base root route schema lines prop d row (Put at) s whole few places is free same = absurd is
stands base root route schema lines prop d row (Replace at) s whole few places is free same = absurd is
stands base root route schema lines prop d row (Remove at n) s whole few places is free same = absurd is
stands base root route schema lines prop d row (Change at None) s whole few places is free same =
    one_goes base root route schema _ (Edit.set at prop d) (goes_set base root route schema lines at prop d row s free same)
stands base root route schema lines prop d row (Change at (Some k)) s whole few places is free same =
    let first = goes_set base root route schema lines at prop d row s free same in
    let size = size_changed lines at row in
    let there = places.1.0 in
    more_go base root route schema (rows.edited row (row_edit.Change at) lines) _ (Edit.set at prop d) (Edit.remove k 1 ∷ []) first
    (one_goes base (edited_views root route (Edit.set at prop d)) route schema _ (Edit.remove k 1)
    (goes_remove base (edited_views root route (Edit.set at prop d)) route schema (rows.edited row (row_edit.Change at) lines) k row first.then (omega (arith, size, there))))
stands base root route schema lines prop d row (Move at None to) s whole few places is free same =
    let first = goes_set base root route schema lines at prop d row s free same in
    let size = size_changed lines at row in
    let there = places.0 in
    let end = places.2 in
    more_go base root route schema (rows.edited row (row_edit.Change at) lines) _ (Edit.set at prop d) (Edit.remove at 1 ∷ Edit.insert to row 1 ∷ []) first
    (replaced base (edited_views root route (Edit.set at prop d)) route schema (rows.edited row (row_edit.Change at) lines) at to row first.then whole (omega (arith, size, there)) (omega (arith, size, end)) (omega (arith, size, few)))
stands base root route schema lines prop d row (Move at (Some k) to) s whole few places is free same =
    let first = goes_set base root route schema lines at prop d row s free same in
    let size = size_changed lines at row in
    let there = places.0 in
    let other = places.1.0 in
    let end = places.2 in
    let root1 = edited_views root route (Edit.set at prop d) in
    let lines1 = rows.edited row (row_edit.Change at) lines in
    let second = goes_remove base root1 route schema lines1 k row first.then (omega (arith, size, other)) in
    let size2 = size_removed lines1 k row (omega (arith, size, other)) in
    let gone = closed_in k at (length lines) other there places.1.1 in
    more_go base root route schema lines1 _ (Edit.set at prop d) (Edit.remove k 1 ∷ Edit.remove (closed k at) 1 ∷ Edit.insert to row 1 ∷ []) first
    (more_go base root1 route schema (rows.edited row (row_edit.Remove k 1) lines1) _ (Edit.remove k 1) (Edit.remove (closed k at) 1 ∷ Edit.insert to row 1 ∷ []) second
    (replaced base (edited_views root1 route (Edit.remove k 1)) route schema (rows.edited row (row_edit.Remove k 1) lines1) (closed k at) to row second.then whole
    (omega (arith, size, size2, gone)) (omega (arith, size, size2, end)) (omega (arith, size, size2, few))))

pub set_goes : (base root : List NamedTable) (route : Route) (schema : List Attribute) (lines : List (List Datum)) (prop : List ℕ) (d : Datum) (row : List Datum) (i : ℕ) (e : KeyedEdit) → Stands base root route schema lines
    → IsRowOf row schema → length lines ≤ max_rows → IsInPlace e (length lines) → IsSet e → place_of_set e ≡ i → due root route (Edit.set i prop d) ≡ None → row ≡ set (get_or lines i []) (place_of_property schema prop) d
    → AllGo base root route schema (rows.edited_by row (edits_of e) lines) (Edit.set i prop d ∷ stand_edits row e)
set_goes base root route schema lines prop d row i e s whole few places is at free same =
    subst (λ k. AllGo base root route schema (rows.edited_by row (edits_of e) lines) (Edit.set k prop d ∷ stand_edits row e)) at
    (stands base root route schema lines prop d row e s whole few places is (subst (λ k. due root route (Edit.set k prop d) ≡ None) (sym at) free) (same ∙ ap (λ k. set (get_or lines k []) (place_of_property schema prop) d) (sym at)))

-- what is put by key is put, and what is set is set where it was asked to be
put_in_order : (low : ℕ) (has : Bool) → IsPut (put_ordered low has)
put_in_order low true = tt
put_in_order low false = tt

put_hashed : (o : Option ℕ) (at : ℕ) → IsPut (put_by o at)
put_hashed None at = tt
put_hashed (Some j) at = tt

pub is_put : (by : By) (keys : ℕ) (row : List Datum) (at : ℕ) (lines : List (List Datum)) → IsPut (put_edit by keys row at lines)
is_put Hash keys row at lines = put_hashed (row_of (take keys row) (keys_of keys lines)) at
is_put Order keys row at lines = put_in_order (rows_below (take keys row) lines) (has_key (take keys row) lines (rows_below (take keys row) lines))

pub record SetsAt (i : ℕ) (e : KeyedEdit) : Type 0 where
  pub is : IsSet e
  pub at : place_of_set e ≡ i

moved_at : (i : ℕ) (other : Option ℕ) (to : ℕ) → SetsAt i (moved_to i other to)
moved_at i other to = either (eqb to (closed_by other i))
  where
    either : (b : Bool) → SetsAt i (cond b (Change i other) (Move i other to))
    either true = record { is = tt; at = refl }
    either false = record { is = tt; at = refl }

set_in_order : (i low : ℕ) (has : Bool) → SetsAt i (set_ordered i low has)
set_in_order i low false = moved_at i None (cond (ltb i low) (low - 1) low)
set_in_order i low true = either (eqb low i)
  where
    either : (b : Bool) → SetsAt i (cond b (Change i None) (moved_to i (Some low) (cond (ltb i low) (low - 1) low)))
    either true = record { is = tt; at = refl }
    either false = moved_at i (Some low) (cond (ltb i low) (low - 1) low)

pub sets_at : (by : By) (keys : ℕ) (row : List Datum) (i : ℕ) (lines : List (List Datum)) → SetsAt i (set_edit by keys row i lines)
sets_at Hash keys row i lines = record { is = tt; at = refl }
sets_at Order keys row i lines = set_in_order i (rows_below (take keys row) lines) (has_key (take keys row) lines (rows_below (take keys row) lines))

-- the views once they were edited so
pub edited_rows : (base root : List NamedTable) (route : Route) (schema : List Attribute) (lines : List (List Datum)) (row : List Datum) (e : KeyedEdit) (edits : List Edit) → Stands base base route schema lines
    → AllGo base base route schema (rows.edited_by row (edits_of e) lines) edits → root ≡ edited_in_turn base route edits
    → EditsRows route.name row (edits_of e) lines base root
edited_rows base root route schema lines row e edits s g is = subst (λ r. EditsRows route.name row (edits_of e) lines base r) (sym is) (record {
  before = s.table;
  after = g.then.table;
  was = s.found;
  is = g.then.found;
  schema = g.then.schema_is ∙ sym s.schema_is;
  rows_before = s.rows_is;
  rows_after = g.then.rows_is;
  others = g.then.others;
})

-- so many events no count of 64 bits passes
pub count_few : (e : KeyedEdit) (size : ℕ) → size ≤ max_rows → IsInPlace e size → count_all (edits_of e) < 2 ^ 64
count_few (Put at) size few places = omega arith
count_few (Replace at) size few places = omega arith
count_few (Change at None) size few places = omega arith
count_few (Change at (Some k)) size few places = omega arith
count_few (Move at None to) size few places = omega arith
count_few (Move at (Some k) to) size few places = omega arith
count_few (Remove at n) size few places = omega (arith, few, places)

-- an edit that puts no row, and one after which none stands
pub none_put : (row : List Datum) (e : KeyedEdit) → ((at : ℕ) → e ≡ Put at → ⊥) → ((at : ℕ) → e ≡ Replace at → ⊥) → put_edits row e ≡ []
none_put row (Put at) put replace = absurd (put at refl)
none_put row (Replace at) put replace = absurd (replace at refl)
none_put row (Change at other) put replace = refl
none_put row (Move at other to) put replace = refl
none_put row (Remove at n) put replace = refl

pub none_stands : (row : List Datum) (e : KeyedEdit) → ((at : ℕ) (other : Option ℕ) → e ≡ Change at other → ⊥) → ((at : ℕ) (other : Option ℕ) (to : ℕ) → e ≡ Move at other to → ⊥) → stand_edits row e ≡ []
none_stands row (Put at) change move = refl
none_stands row (Replace at) change move = refl
none_stands row (Change at other) change move = absurd (change at other refl)
none_stands row (Move at other to) change move = absurd (move at other to refl)
none_stands row (Remove at n) change move = refl

-- a row that stands at one place is one row
pub one_row : (root : List NamedTable) (name : List ℕ) (at : ℕ) (r s : List Datum) → IsRowIn root name at r → IsRowIn root name at s → r ≡ s
one_row root name at r s a b =
    let same : a.table ≡ b.table = (let e : Some a.table ≡ Some b.table = sym a.found ∙ b.found in cc) in
    a.is ∙ ap (λ (t : StoredTable). get_or t.rows at []) same ∙ sym b.is
