-- What is kept stays right over a note, a drop and an edit that is followed.
use Rattle.std.proofs.Common.{◌≡◌, ℕ, ℤ, ◌≤◌, true, false, ◌&&◌, List, [], length, get_or, map, Some, None, Option, Result, Ok, Err, refl, ap, sym, subst, ◌∙◌, arith, inl, inr}
use Rattle.std.specs.Prelude.{OnErr, OnOk}
use Rattle.std.specs.Option.{ForSome, option_map}
use Rattle.std.proofs.lemmas.Bool.{cases_Bool}
use Rattle.std.proofs.lemmas.List.Elements.{All-contains}
use Rattle.std.proofs.lemmas.Option.{none-some, same_Some}
use Rattle.watches.specs.Keeping.{ChangesRows, HaveSameRows}
use Rattle.derived.specs.Viewing.{keep}
use Rattle.live_counts.specs.States.{CountsState, FilterState}
use Rattle.mk_value.specs.Data.{Datum}
use Rattle.mk_value.specs.Heading.{Attribute}
use Rattle.mk_value.specs.Names.{same_bytes}
use Rattle.relations.specs.Columns.{column_of}
use Rattle.relations.specs.Rows.{rows_at}
use Rattle.relations.proofs.Filtering.{rows_passing}
use Rattle.relations.proofs.Names.{all_present}
use Rattle.row_edits.specs.declared.edit.RowEdit.{RowEdit}
use Rattle.tables.specs.Tables.{StoredTable}
use Rattle.view_store.specs.Views.{NamedTable, table_of}
use Rattle.view_store.proofs.Roots.{same_name}
use Rattle.viewed.proofs.Made.{kept_rows}
use Rattle.viewers.specs.Laws.{gives}
use Rattle.viewers.specs.Meanings.{Meaning}
use Rattle.viewers.specs.declared.law.Law.{Law}
use Rattle.kept_counts.specs.Following.{AreEach, Follows, FollowsOn, Forgets, IsPut, Notes}
use Rattle.kept_counts.specs.declared.kept.Kept.{Kept}
use Rattle.kept_counts.specs.declared.kept.Kept.TheVariants.{Counts, Filter}
use Rattle.kept_counts.specs.Keeping.{AllHaveNoted, AreCounted, AreCountedBut, AreCountedOver, AreWaiting, Counted, HasNoted, IsCounted, IsCountedOver, IsFilterBy, IsOfView, IsWaiting, NoneIsKept, What, counted_by, has_place, is_kept, is_kept_by, is_of, is_what, kept_by, max_kept, table_stored, what_kept, what_of}
use Rattle.kept_counts.proofs.Placing.{IsFound, contains_kept, put_all}
use Rattle.kept_counts.proofs.Stepping.{each_all, each_any, each_new}

-- over one view
over_one : (views : List NamedTable) (e : Counted) (view : List ℕ) (t : StoredTable) → IsCounted views e → table_of views view ≡ Some t → same_bytes e.view view ≡ true → IsCountedOver t.schema t.rows e
over_one views e view t h is same c some =
    let kept = h c some in
    let name : e.view ≡ view = same_name e.view view same in
    let there = kept.there in
    let moved = ap (table_of views) name in
    let table : kept.table ≡ t = cc in
    subst (λ (u : StoredTable). IsWaiting u.schema u.rows c) table kept.over

pub over_view : (views : List NamedTable) (all : List Counted) (view : List ℕ) (t : StoredTable) → AreCounted views all → table_of views view ≡ Some t → AreCountedOver view t.schema t.rows all
over_view views all view t h is k d p same = over_one views (get_or all k d) view t (h k d p) is same

module _ (view : List ℕ) (schema : List Attribute) (rows : List (List Datum)) (edit : RowEdit) (old new : List Counted) (each : AreEach (Notes view schema rows edit) old new) where
  pub notes_noted : AllHaveNoted view schema rows edit new
  notes_noted =
      each_new (Notes view schema rows edit) old new (λ (e : Counted). same_bytes e.view view ≡ true → ForSome e.kept (HasNoted schema rows edit)) each
      (λ a b r same. r.noted (ap (λ v. same_bytes v view) (sym r.of) ∙ same))

  pub notes_kept : (views : List NamedTable) → AreCounted views old → AreCountedBut view views new
  notes_kept views h =
      each_all (Notes view schema rows edit) old new (IsCounted views) (λ (e : Counted). same_bytes e.view view ≡ false → IsCounted views e) each
      (λ a b r kept other. subst (IsCounted views) (sym (r.others (ap (λ v. same_bytes v view) (sym r.of) ∙ other))) kept) h

module _ (view : List ℕ) (old new : List Counted) (each : AreEach (Forgets view) old new) where
  pub forgets_gone : NoneIsKept view new
  forgets_gone = each_new (Forgets view) old new (λ (e : Counted). same_bytes e.view view ≡ true → e.kept ≡ None) each (λ a b r same. r.gone (ap (λ v. same_bytes v view) (sym r.of) ∙ same))

  -- where nothing is kept all is right
  none_right : (views : List NamedTable) (e : Counted) → e.kept ≡ None → IsCounted views e
  none_right views e none c some = absurd (none-some c (sym none ∙ some))

  moved_right : (before after : List NamedTable) (e : Counted) → table_of after e.view ≡ table_of before e.view → IsCounted before e → IsCounted after e
  moved_right before after e same h c some = let kept = h c some in record { table = kept.table; there = same ∙ kept.there; over = kept.over }

  pub forgets_kept : (before after : List NamedTable) → AreCountedBut view before old → ((name : List ℕ) → same_bytes name view ≡ false → table_of after name ≡ table_of before name) → AreCounted after new
  forgets_kept before after h others =
      each_all (Forgets view) old new (λ (e : Counted). same_bytes e.view view ≡ false → IsCounted before e) (IsCounted after) each
      (λ a b r kept. elim (cases_Bool (same_bytes a.view view)) [
        | inl same ↦ none_right after b (r.gone same)
        | inr other ↦ subst (IsCounted after) (sym (r.others other)) (moved_right before after a (others a.view other) (kept other))
      ])
      h

module _ (view : List ℕ) (schema : List Attribute) (rows : List (List Datum)) (old new : List Counted) (each : AreEach (Follows view schema rows) old new) where
  pub follows_over : AreCountedOver view schema rows new
  follows_over =
      each_new (Follows view schema rows) old new (λ (e : Counted). same_bytes e.view view ≡ true → IsCountedOver schema rows e) each
      (λ a b r same. r.over (ap (λ v. same_bytes v view) (sym r.of) ∙ same))

  followed_right : (before : List (List Datum)) (was is : List NamedTable) (e : Counted) → ChangesRows view schema before rows was is → same_bytes e.view view ≡ true → IsCountedOver schema rows e → IsCounted is e
  followed_right before was is e change same h c some = record {
    table = change.new_table;
    there = ap (table_of is) (same_name e.view view same) ∙ change.is;
    over = subst (λ s. IsWaiting s change.new_table.rows c) (sym change.schema_after) (subst (λ rs. IsWaiting schema rs c) (sym change.rows_after) (h c some));
  }

  other_right : (before : List (List Datum)) (was is : List NamedTable) (e : Counted) → ChangesRows view schema before rows was is → same_bytes e.view view ≡ false → IsCounted was e → IsCounted is e
  other_right before was is e change other h c some = let kept = h c some in record { table = kept.table; there = change.others e.view other ∙ kept.there; over = kept.over }

  pub follows_kept : (before : List (List Datum)) (was is : List NamedTable) → AreCountedBut view was old → ChangesRows view schema before rows was is → AreCounted is new
  follows_kept before was is h change =
      each_all (Follows view schema rows) old new (λ (e : Counted). same_bytes e.view view ≡ false → IsCounted was e) (IsCounted is) each
      (λ a b r kept. elim (cases_Bool (same_bytes a.view view)) [
        | inl same ↦ followed_right before was is b change (ap (λ v. same_bytes v view) r.of ∙ same) (r.over same)
        | inr other ↦ subst (IsCounted is) (sym (r.others other)) (other_right before was is a change other (kept other))
      ])
      h

-- what follows and drops nothing
pub follows_each : (view : List ℕ) (schema : List Attribute) (rows : List (List Datum)) (old new : List Counted) → AreEach (FollowsOn view schema rows) old new → AreEach (Follows view schema rows) old new
follows_each view schema rows old new h = record { long = h.long; each = λ k d p. (h.each k d p).follows }

pub follows_stays : (view : List ℕ) (schema : List Attribute) (rows : List (List Datum)) (old new : List Counted) → AreEach (FollowsOn view schema rows) old new → (name : List ℕ) (what : What) → is_kept new name what ≡ is_kept old name what
follows_stays view schema rows old new h name what =
    each_any (FollowsOn view schema rows) (is_of name what)
    (λ a b r. ap (λ v. same_bytes v name && is_what what (what_kept b)) r.follows.of ∙ ap (λ (o : Option What). same_bytes a.view name && is_what what o) r.stays) old new h

-- nothing is right over any views
pub nothing_counted : (views : List NamedTable) (all : List Counted) → all ≡ [] → AreCounted views all
nothing_counted views all none = subst (AreCounted views) (sym none) (λ k d p. absurd (omega (arith, p)))

-- what is right of all views is right of all but one
pub counted_but : (view : List ℕ) (views : List NamedTable) (all : List Counted) → AreCounted views all → AreCountedBut view views all
counted_but view views all h k d p other = h k d p

-- over views of the same rows
pub counted_where_same : (old new : List NamedTable) (all : List Counted) → HaveSameRows old new → AreCounted old all → AreCounted new all
counted_where_same old new all same h k d p c some =
    let e = get_or all k d in
    let kept : IsOfView old e.view c = h k d p c some in
    let found = same e.view kept.table kept.there in
    record {
      table = found.0;
      there = found.1;
      over = subst (λ schema. IsWaiting schema found.0.rows c) (sym found.2) (subst (λ rows. IsWaiting kept.table.schema rows c) (sym found.3) kept.over);
    }

-- one more is put in
pub put_kept : {E : Type 0} (views : List NamedTable) (old new : List Counted) (entry : Counted) (r : Result (Unit {0}) E) → OnOk r (IsPut old entry new) → OnErr r (new ≡ old) → AreCounted views old → IsCounted views entry → AreCounted views new
put_kept views old new entry (Ok u) put err h one = put_all (IsCounted views) old new entry put h one
put_kept views old new entry (Err x) put err h one = subst (AreCounted views) (sym err) h

pub put_there : {E : Type 0} (C : StoredTable → Type 0) (views : List NamedTable) (old new : List Counted) (entry : Counted) (view : List ℕ) (what : What) (r : Result (Unit {0}) E) → OnOk r (IsPut old entry new) → is_of view what entry ≡ true
    → OnOk r ((t : StoredTable) → table_of views view ≡ Some t → C t → has_place old ≡ true → is_kept new view what ≡ true)
put_there C views old new entry view what (Ok u) put is = λ t there may place. contains_kept new entry view what (put.there place) is
put_there C views old new entry view what (Err x) put is = tt

pub put_few : {E : Type 0} (old new : List Counted) (entry : Counted) (r : Result (Unit {0}) E) → OnOk r (IsPut old entry new) → OnErr r (new ≡ old) → length old ≤ max_kept → length new ≤ max_kept
put_few old new entry (Ok u) put err h = put.few h
put_few old new entry (Err x) put err h = let e = ap length err in omega arith

-- counts that were made of a view are right
pub made_right : (views : List NamedTable) (view : List ℕ) (t : StoredTable) (e : Counted) → table_of views view ≡ Some t → e.view ≡ view → IsCountedOver t.schema t.rows e → IsCounted views e
made_right views view t e there named over c some = record { table = t; there = ap (table_of views) named ∙ there; over = over c some }

-- what was found is right
found_right : (views : List NamedTable) (all : List Counted) (view : List ℕ) (what : What) (e : Counted) (kept : Kept) (t : StoredTable) → AreCounted views all → IsFound all view what e → e.kept ≡ Some kept → table_of views view ≡ Some t
    → IsWaiting t.schema t.rows kept
found_right views all view what e kept t h found some there =
    let right = All-contains (IsCounted views) all e h found.there kept some in
    let is = right.there in
    let moved = ap (table_of views) found.of.view_is in
    let table : right.table ≡ t = cc in
    subst (λ (u : StoredTable). IsWaiting u.schema u.rows kept) table right.over

-- and is what was sought
found_what : (all : List Counted) (view : List ℕ) (what : What) (e : Counted) (kept : Kept) → IsFound all view what e → e.kept ≡ Some kept → what_of kept ≡ what
found_what all view what e kept found some = same_Some (what_of kept) what (sym (ap (option_map what_of) some) ∙ found.of.what_is)

pub found_counts : (views : List NamedTable) (all : List Counted) (view : List ℕ) (keys own : List (List ℕ)) (e : Counted) (counts : CountsState) (t : StoredTable) → AreCounted views all → IsFound all view (counted_by keys) e
    → e.kept ≡ Some (Counts own counts) → table_of views view ≡ Some t → AreWaiting t.schema t.rows keys counts
found_counts views all view keys own e counts t h found some there =
    let right : AreWaiting t.schema t.rows own counts = found_right views all view (counted_by keys) e (Counts own counts) t h found some there in
    let same : counted_by own ≡ counted_by keys = found_what all view (counted_by keys) e (Counts own counts) found some in
    let names : own ≡ keys = cc in
    subst (λ ks. AreWaiting t.schema t.rows ks counts) names right

pub found_filter : (views : List NamedTable) (all : List Counted) (view : List ℕ) (law by : Law) (props own : List (List ℕ)) (e : Counted) (filter : FilterState) (t : StoredTable) → AreCounted views all → IsFound all view (kept_by law props) e
    → e.kept ≡ Some (Filter by own filter) → table_of views view ≡ Some t → IsFilterBy t.schema t.rows law props filter
found_filter views all view law by props own e filter t h found some there =
    let right : IsFilterBy t.schema t.rows by own filter = found_right views all view (kept_by law props) e (Filter by own filter) t h found some there in
    let same : kept_by by own ≡ kept_by law props = found_what all view (kept_by law props) e (Filter by own filter) found some in
    let laws : by ≡ law = cc in
    let names : own ≡ props = cc in
    subst (λ ps. IsFilterBy t.schema t.rows law ps filter) names (subst (λ l. IsFilterBy t.schema t.rows l own filter) laws right)

-- the rows of a filter are those that the operator keeps
pub filter_rows : (t : StoredTable) (viewer : Meaning) (law : Law) (props : List (List ℕ)) (filter : FilterState) → IsFilterBy t.schema t.rows law props filter → viewer.gives ≡ gives law
    → record { schema = t.schema; rows = rows_at t.rows filter.kept } ≡ keep viewer.gives props (table_stored t)
filter_rows t viewer law props filter h same =
    let test = is_kept_by t.schema law props in
    let rows = ap (rows_at t.rows) h.now.positions ∙ rows_passing test [] t.rows ∙ kept_rows (table_stored t) (gives law) props (map (column_of t.schema) props) (all_present t.schema props h.present) refl in
    ap (λ (rs : List (List Datum)). record { schema = t.schema; rows = rs }) rows ∙ ap (λ (g : List Datum → ℤ). keep g props (table_stored t)) (sym same)
