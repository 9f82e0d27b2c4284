-- Counts and rows that are at hand are those that the name of their source is due.
use Rattle.std.proofs.Common.{◌≡◌, ℕ, true, false, List, [], ◌++◌, Option, Some, None, MatchOption, Result, Ok, Err, refl, ap, sym, subst, ◌∙◌}
use Rattle.std.specs.Prelude.{find}
use Rattle.std.specs.List.Sorted.{IsPermutation}
use Rattle.std.specs.Option.{is_some}
use Rattle.std.proofs.lemmas.List.Sorted.{IsPermutation-refl}
use Rattle.std.proofs.lemmas.Option.{same_Some}
use Rattle.computing.specs.Computed.{alone, counts_over, kept_of, rows_over}
use Rattle.derived.specs.Grouping.{counts}
use Rattle.derived.specs.Layers.{Layered, table_of}
use Rattle.derived.specs.Viewing.{keep}
use Rattle.eval.specs.Names.{Named, continued, seen_at, view_at}
use Rattle.eval.specs.declared.error.EvalError.{EvalError}
use Rattle.eval.specs.declared.error.EvalError.TheVariants.{Name}
use Rattle.eval.specs.declared.error.NameError.{NameError}
use Rattle.eval.specs.Values.{at_path, at_size, counted}
use Rattle.watches.specs.Keeping.{ShowsAll}
use Rattle.watches.specs.Watches.{is_watch, source_of}
use Rattle.kept_counts.specs.Keeping.{IsCountsOf, IsFilterOf}
use Rattle.mk_value.specs.Tables.{Table}
use Rattle.relations.specs.Answers.{outcome}
use Rattle.tables.specs.Tables.{StoredTable}
use Rattle.view_store.specs.Views as views
use Rattle.viewers.specs.Meanings.{Meaning}
use Rattle.questions.specs.AtHand.{ShowsView}
use Rattle.questions.specs.Kept.{Names, known, stored, table_of as table_stored, watched}
use Rattle.questions.proofs.Found.{is_this, stored_view, view_at-before, view_at-behind, watch_seen}
use Rattle.questions.proofs.Levels.{seen_before}

-- a view stands for its rows
seen_itself : (n : Names) (name : List ℕ) (t : StoredTable) → views.table_of n.views name ≡ Some t → view_at (known n.views n.snapshots n.watches) (alone name) ≡ Ok (table_stored t)
seen_itself n name t there =
    let first = stored_view n.views n.snapshots name t there in
    view_at-before (stored n.views n.snapshots) (watched n.views n.watches) (alone name) name refl (ap is_some first) ∙ ap (λ o. seen_at o []) first

pub shows_itself : (n : Names) (name : List ℕ) (t : StoredTable) → views.table_of n.views name ≡ Some t → ShowsView n name name
shows_itself n name t there = record {
  table = t;
  shown = table_stored t;
  there = there;
  is = seen_itself n name t there;
  schema = refl;
  rows = IsPermutation-refl t.rows;
}

pub shows_viewed : {R : Type 0} (n : Names) (name : List ℕ) (r : Option R) (see : R → StoredTable) → MatchOption r (views.table_of n.views name ≡ None) (λ x. views.table_of n.views name ≡ Some (see x)) → is_some r ≡ true
    → ShowsView n name name
shows_viewed n name (Some x) see h some = shows_itself n name (see x) h
shows_viewed n name None see h some = absurd (let f : false ≡ true = some in cc)

-- a watch that shows all rows of its view
pub shows_through : (n : Names) (name : List ℕ) → is_some (find (is_this name) (stored n.views n.snapshots)) ≡ false → is_watch n.watches name ≡ true → ShowsAll n.views n.watches name
    → ShowsView n (source_of n.watches name).view name
shows_through n name none one all = record {
  table = all.table;
  shown = all.shown;
  there = all.there;
  is =
      view_at-behind (stored n.views n.snapshots) (watched n.views n.watches) (alone name) name refl none
      ∙ watch_seen n.views n.watches (alone name) name all.shown refl refl one all.is;
  schema = all.schema;
  rows = all.rows;
}

-- the counts of a view are those of what shows all its rows
pub counts_shown : (n : Names) (view name : List ℕ) (keys : List (List ℕ)) (count : List ℕ) (d : Layered) → ShowsView n view name → IsCountsOf n.views view keys count d
    → counts_over (known n.views n.snapshots n.watches) name keys count ≡ Ok (table_of d)
counts_shown n view name keys count d shows of =
    let same : shows.table ≡ of.table = same_Some shows.table of.table (sym shows.there ∙ of.there) in
    let t = of.table in
    let rows = shows.shown.rows in
    let permuted : IsPermutation t.rows rows = subst (λ (u : StoredTable). IsPermutation u.rows rows) same shows.rows in
    let schema : shows.shown.schema ≡ t.schema = shows.schema ∙ ap (λ (u : StoredTable). u.schema) same in
    let other : Table = record { schema = t.schema; rows = rows } in
    ap (λ r. continued (at_path r) (counted keys count)) shows.is
    ∙ ap (λ s. counted keys count (record { schema = s; rows = rows })) schema
    ∙ ap (λ o. at_size other (outcome o (counts keys count other))) of.due
    ∙ ap Ok (sym (of.is rows permuted))

-- the rows that a viewer keeps of a view are those of what the name of the view stands for
pub rows_shown : (n : Names) (name : List ℕ) (viewer : Meaning) (props : List (List ℕ)) (d : Layered) → IsFilterOf n.views name viewer props d → rows_over (known n.views n.snapshots n.watches) name viewer props ≡ Ok (table_of d)
rows_shown n name viewer props d of =
    let t = of.table in
    ap (λ r. continued (at_path r) (kept_of viewer props)) (seen_itself n name t of.there)
    ∙ ap (λ o. at_size (table_stored t) (outcome o (keep viewer.gives props (table_stored t)))) of.due
    ∙ ap Ok (sym of.is)

-- what is at hand of names that come first
given_before : (given : Table → Result Table EvalError) (xs ys : List Named) (name : List ℕ) (t : Table) → continued (at_path (view_at xs (alone name))) given ≡ Ok t → continued (at_path (view_at (xs ++ ys) (alone name))) given ≡ Ok t
given_before given xs ys name t h = at (view_at xs (alone name)) refl h
  where
    at : (r : Result Table NameError) → view_at xs (alone name) ≡ r → continued (at_path r) given ≡ Ok t → continued (at_path (view_at (xs ++ ys) (alone name))) given ≡ Ok t
    at (Ok u) e g = ap (λ (r : Result Table NameError). continued (at_path r) given) (seen_before xs ys name [] u e) ∙ g
    at (Err x) e g = absurd (let clash : ◌≡◌ {A = Result Table EvalError} (Err (Name x)) (Ok t) = g in cc)

pub over_before : (xs ys : List Named) (name : List ℕ) (keys : List (List ℕ)) (count : List ℕ) (t : Table) → counts_over xs name keys count ≡ Ok t → counts_over (xs ++ ys) name keys count ≡ Ok t
over_before xs ys name keys count t h = given_before (counted keys count) xs ys name t h

pub rows_before : (xs ys : List Named) (name : List ℕ) (viewer : Meaning) (props : List (List ℕ)) (t : Table) → rows_over xs name viewer props ≡ Ok t → rows_over (xs ++ ys) name viewer props ≡ Ok t
rows_before xs ys name viewer props t h = given_before (kept_of viewer props) xs ys name t h
