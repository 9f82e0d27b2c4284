-- An edit where a path leads is an edit of the rows of the view itself.
use Rattle.std.proofs.Common.{◌≡◌, ℕ, zero, suc, ◌+◌, ◌-◌, ◌<◌, ◌≤◌, true, false, cond, ltb, List, [], ◌∷◌, ◌++◌, length, get_or, set, take, drop, replicate, Option, Some, None, Err, refl, ap, sym, subst, ◌∙◌, arith}
use Rattle.std.specs.Option.{option_or}
use Rattle.std.proofs.lemmas.Bool.{false≢true}
use Rattle.std.proofs.lemmas.Bool.Decides.{nat_tests}
use Rattle.std.proofs.lemmas.List.{get_or-append_right, get_or-set_same, length-append, length-drop, length-replicate, length-set, length-take-le, take-append-drop}
use Rattle.mk_value.specs.Data.{Datum, cell}
use Rattle.mk_value.specs.Limits.{max_rows}
use Rattle.mk_value.specs.Names.{same_bytes}
use Rattle.mk_value.specs.Paths.{Route}
use Rattle.mk_value.specs.declared.path.Step.{Step}
use Rattle.mk_value.specs.Tables.{domain_at}
use Rattle.relations.proofs.Faults.{cases}
use Rattle.row_edits.specs.Lines.{IsLine, row_at}
use Rattle.row_edits.specs.declared.edit.RowEdit.TheVariants.{Insert, Remove, Change}
use Rattle.tables.specs.Homes.{rows_in}
use Rattle.tables.specs.Rows.{completed, inserted, removed}
use Rattle.tables.specs.Tables.{StoredTable, inner_schema, place_of_property}
use Rattle.view_store.specs.Edits.{Edit, edited, edited_here}
use Rattle.view_store.specs.Refusals.{at_view, due, due_in, kind_refusal, or_at_end, range_refusal, rows_at, schema_at}
use Rattle.view_store.specs.Views.{NamedTable, edited_views, table_of}
use Rattle.view_store.specs.declared.error.EditError.TheVariants.{NoView, OutOfRange}
use Rattle.view_store.proofs.Editing.{edited-schema, may_insert}
use Rattle.view_store.proofs.Roots.{same_name}
use Rattle.session.specs.Changes.{home_of, row_edit_of}
use Rattle.session.specs.Following.{IsLineOn, edit_at, home_at}

some_none : {X P : Type 0} (x : X) → Some x ≡ None → P
some_none x e = absurd (let f : ◌≡◌ {A = Option _} (Some x) None = e in cc)

-- the table of the view is edited, and that of each other name is as before
pub found_edited : (views : List NamedTable) (route : Route) (edit : Edit) (t : StoredTable) → table_of views route.name ≡ Some t
    → table_of (edited_views views route edit) route.name ≡ Some (edited route.steps edit t)
found_edited [] route edit t h = some_none t (sym h)
found_edited (v ∷ views) route edit t h = cases (same_bytes v.name route.name)
    (λ e. let same : v.table ≡ t = (let f : ◌≡◌ {A = Option StoredTable} (Some v.table) (Some t) = rw e at h in cc) in
    rw e (rw e (ap (λ u. Some (edited route.steps edit u)) same)))
    (λ e. rw e (rw e (found_edited views route edit t (rw e at h))))

pub other_name : (a b : List ℕ) → same_bytes a b ≡ true → same_bytes b a ≡ false → ⊥
other_name a b e h =
    let same = same_name a b e in
    false≢true (sym (subst (λ n. same_bytes b n ≡ false) same h) ∙ subst (λ n. same_bytes n b ≡ true) same e)

pub other_edited : (views : List NamedTable) (route : Route) (edit : Edit) (name : List ℕ) → same_bytes name route.name ≡ false
    → table_of (edited_views views route edit) name ≡ table_of views name
other_edited [] route edit name h = refl
other_edited (v ∷ views) route edit name h = cases (same_bytes v.name route.name)
    (λ e. rw e (cases (same_bytes v.name name)
    (λ f. absurd (other_name name route.name
    (subst (λ n. same_bytes n route.name ≡ true) (same_name v.name name f) e) (absurd (false≢true (sym h ∙ subst (λ n. same_bytes n route.name ≡ true) (same_name v.name name f) e)))))
    (λ f. rw f refl)))
    (λ e. rw e (cases (same_bytes v.name name)
    (λ f. rw f refl)
    (λ f. rw f (other_edited views route edit name h))))

-- what is due of the rows is due
none_second : {X : Type 0} (a b : Option X) → option_or a b ≡ None → b ≡ None
none_second None b e = e
none_second (Some x) b e = some_none x e

below : (a b : ℕ) → ltb a b ≡ true → a < b
below a b e = grind (arith, nat_tests)

at_most : (a b : ℕ) → ltb a b ≡ false → b ≤ a
at_most a b e = grind (arith, nat_tests)

pub in_range : (t : StoredTable) (edit : Edit) → due_in t [] edit ≡ None → range_refusal (length t.rows) edit ≡ None
in_range t edit h = none_second (kind_refusal t.schema edit) (range_refusal (length t.rows) edit) h

pub row_in : (n i : ℕ) → cond (ltb i n) None (Some (OutOfRange n)) ≡ None → i < n
row_in n i h = cases (ltb i n) (λ e. below i n e) (λ e. some_none (OutOfRange n) (rw e at h))

rows_in_range : (n i : ℕ) → cond (ltb n i) (Some (OutOfRange n)) None ≡ None → i ≤ n
rows_in_range n i h = cases (ltb n i) (λ e. some_none (OutOfRange n) (rw e at h)) (λ e. at_most n i e)

row_on_path : (t : StoredTable) (s : Step) (steps : List Step) (edit : Edit) → due_in t (s ∷ steps) edit ≡ None → s.row < length t.rows
row_on_path t s steps edit h =
    let k = place_of_property t.schema s.prop in
    let inside = rows_at steps (inner_schema (domain_at t.schema k)) (rows_in (cell t.rows s.row k)) in
    let ranges = none_second (or_at_end (schema_at (s ∷ steps) t.schema) (λ schema. kind_refusal schema edit)) (or_at_end (rows_at (s ∷ steps) t.schema t.rows) (λ rows. range_refusal (length rows) edit)) h in
    cases (ltb s.row (length t.rows))
    (λ e. below s.row (length t.rows) e)
    (λ e. some_none (OutOfRange (length t.rows))
    (ap (λ b. or_at_end (cond b inside (Err (OutOfRange (length t.rows)))) (λ rows. range_refusal (length rows) edit)) (sym e) ∙ ranges))

-- a row that is given in the place of another
line_set : (rows : List (List Datum)) (i : ℕ) (row : List Datum) → i < length rows → IsLine (Change i ∷ []) i rows (set rows i row)
line_set rows i row h =
    let long = length-set rows i row in
    record {
      in_range = (h, tt);
      there = λ _. (omega (arith, h, long));
      made = ap (set rows i) (sym (get_or-set_same rows i row [] h));
    }

-- rows that are put in
row_here : (rows : List (List Datum)) (at n : ℕ) (row : List Datum) → at ≤ length rows → row_at (inserted at (suc n) row rows) at ≡ row
row_here rows at n row h =
    get_or-append_right (take at rows) (replicate (suc n) row ++ drop at rows) at at [] (length-take-le at rows h) (omega arith)
    ∙ ap (λ k. get_or (replicate (suc n) row ++ drop at rows) k []) (let e : at - at ≡ 0 = omega arith in e)

line_inserted : (rows : List (List Datum)) (at n : ℕ) (row : List Datum) → at ≤ length rows → length rows + suc n ≤ max_rows
    → IsLine (Insert at (suc n) ∷ []) at rows (inserted at (suc n) row rows)
line_inserted rows at n row h few =
    let a = length-append (take at rows) (replicate (suc n) row ++ drop at rows) in
    let b = length-append (replicate (suc n) row) (drop at rows) in
    let c = length-take-le at rows h in
    let d = length-replicate (suc n) row in
    let e = length-drop at rows in
    record {
      in_range = ((h, few), tt);
      there = λ _. (omega arith);
      made = ap (λ r. inserted at (suc n) r rows) (sym (row_here rows at n row h));
    }

line_none : (rows : List (List Datum)) (at : ℕ) → at ≤ length rows → length rows + 0 ≤ max_rows → IsLine (Insert at 0 ∷ []) at rows rows
line_none rows at h few = record {
  in_range = ((h, few), tt);
  there = λ brings. absurd (false≢true brings);
  made = sym (take-append-drop at rows);
}

line_removed : (rows : List (List Datum)) (at n : ℕ) → at + n ≤ length rows → IsLine (Remove at n ∷ []) 0 rows (removed at n rows)
line_removed rows at n h = record { in_range = (h, tt); there = λ brings. absurd (false≢true brings); made = refl }

line_removed_none : (rows : List (List Datum)) (at : ℕ) → at + 0 ≤ length rows → IsLine (Remove at 0 ∷ []) 0 rows rows
line_removed_none rows at h = record {
  in_range = (h, tt);
  there = λ brings. absurd (false≢true brings);
  made = sym (ap (λ k. take at rows ++ drop k rows) (let e : at + 0 ≡ at = omega arith in e) ∙ take-append-drop at rows);
}

line_here : (t : StoredTable) (edit : Edit) → due_in t [] edit ≡ None → IsLine (row_edit_of edit ∷ []) (home_of edit) t.rows (edited_here edit t).rows
line_here t (Edit.insert at row zero) h = let may = may_insert t at zero row h in line_none t.rows at may.within may.room
line_here t (Edit.insert at row (suc n)) h = let may = may_insert t at (suc n) row h in line_inserted t.rows at n (completed t.schema row) may.within may.room
line_here t (Edit.set i prop d) h =
    line_set t.rows i (set (get_or t.rows i []) (place_of_property t.schema prop) d) (row_in (length t.rows) i (in_range t (Edit.set i prop d) h))
line_here t (Edit.remove at zero) h = line_removed_none t.rows at (rows_in_range (length t.rows) (at + 0) (in_range t (Edit.remove at zero) h))
line_here t (Edit.remove at (suc n)) h = line_removed t.rows at (suc n) (rows_in_range (length t.rows) (at + suc n) (in_range t (Edit.remove at (suc n)) h))

line_at : (t : StoredTable) (steps : List Step) (edit : Edit) → due_in t steps edit ≡ None
    → IsLine (edit_at steps (row_edit_of edit) ∷ []) (home_at steps (home_of edit)) t.rows (edited steps edit t).rows
line_at t [] edit h = line_here t edit h
line_at t (s ∷ steps) edit h = line_set t.rows s.row _ (row_on_path t s steps edit h)

line_found : (views : List NamedTable) (route : Route) (edit : Edit) (o : Option StoredTable) → table_of views route.name ≡ o → at_view o (λ t. due_in t route.steps edit) ≡ None
    → IsLineOn route.name (edit_at route.steps (row_edit_of edit)) (home_at route.steps (home_of edit)) views (edited_views views route edit)
line_found views route edit None found h = some_none NoView h
line_found views route edit (Some t) found h = record {
  before = t;
  after = edited route.steps edit t;
  was = found;
  is = found_edited views route edit t found;
  schema = edited-schema route.steps edit t;
  line = line_at t route.steps edit h;
  others = other_edited views route edit;
}

-- an edit that is due no refusal is a line on the view of its path
pub line_on : (views : List NamedTable) (route : Route) (edit : Edit) → due views route edit ≡ None
    → IsLineOn route.name (edit_at route.steps (row_edit_of edit)) (home_at route.steps (home_of edit)) views (edited_views views route edit)
line_on views route edit h = line_found views route edit (table_of views route.name) refl h
