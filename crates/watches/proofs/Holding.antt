-- Watches that keep the positions of their rows go on keeping them where the rows are the same.
use Rattle.std.proofs.Common.{◌≡◌, ℕ, Bool, true, false, cond, List, get_or, None, Some, refl, ap, sym, subst, ◌∙◌}
use Rattle.std.specs.Prelude.{Option, IsNone, IsSome}
use Rattle.std.proofs.lemmas.Option.{same_Some}
use Rattle.live.specs.Chains.{AreNow}
use Rattle.row_edits.specs.declared.event.Event.{Event}
use Rattle.std.specs.List.{All, list_any}
use Rattle.std.proofs.lemmas.List.Folds.{list_any_at, map_fixed}
use Rattle.mk_value.specs.Data.{Datum}
use Rattle.mk_value.specs.Heading.{Attribute}
use Rattle.mk_value.specs.Names.{same_bytes}
use Rattle.tables.specs.Tables.{StoredTable}
use Rattle.view_store.specs.Views.{NamedTable, table_of}
use Rattle.view_store.proofs.Roots.{same_name}
use Rattle.watches.specs.Keeping.{AreInStep, AreKept, AreKeptOver, HaveSameRows, IsInStep, IsKept, IsKeptOver, Kept, followed, followed_of}
use Rattle.watches.specs.Watches.{Followed, followed_by, is_watched, raised}
use Rattle.watches.proofs.Finding.{any_map}

pub kept_along : (k : Kept) (s : List Attribute) (rows : List (List Datum)) (t : StoredTable) → t.schema ≡ s → t.rows ≡ rows → IsKeptOver s rows k → IsKeptOver t.schema t.rows k
kept_along k s rows t e f h = subst (λ u. IsKeptOver u t.rows k) (sym e) (subst (λ rs. IsKeptOver s rs k) (sym f) h)

-- over one view
pub kept_over : (views : List NamedTable) (all : List Kept) (view : List ℕ) (t : StoredTable) → AreKept views all → table_of views view ≡ Some t → AreKeptOver view t.schema t.rows all
kept_over views all view t h is k d p same =
    let kept : IsKept views (get_or all k d) = h k d p in
    let name : (get_or all k d).view ≡ view = same_name (get_or all k d).view view same in
    let there = kept.there in
    let moved = ap (table_of views) name in
    let table : kept.table ≡ t = cc in
    subst (λ (u : StoredTable). IsKeptOver u.schema u.rows (get_or all k d)) table kept.over

-- over views of the same rows
pub kept_where_same : (old new : List NamedTable) (all : List Kept) → HaveSameRows old new → AreKept old all → AreKept new all
kept_where_same old new all same h k d p =
    let kept : IsKept old (get_or all k d) = h k d p in
    let found = same (get_or all k d).view kept.table kept.there in
    record { table = found.0; there = found.1; over = kept_along (get_or all k d) kept.table.schema kept.table.rows found.0 found.2 found.3 kept.over }

pub none_of : {X : Type 0} (p : X → Bool) (xs : List X) → list_any p xs ≡ false → All (λ x. p x ≡ false) xs
none_of p xs none k d q = at (p (get_or xs k d)) refl
  where
    at : (b : Bool) → p (get_or xs k d) ≡ b → b ≡ false
    at true e = let some = list_any_at p xs k d q e in cc
    at false e = refl

-- no watch stands over a view that is not watched
pub not_watched : (all : List Kept) (view : List ℕ) → is_watched (followed all) view ≡ false → All (λ (k : Kept). same_bytes k.view view ≡ false) all
not_watched all view none =
    none_of (λ (k : Kept). same_bytes k.view view) all (sym (any_map (λ (f : Followed). same_bytes f.view view) followed_of all) ∙ none)

pub kept_where_others : (old new : List NamedTable) (all : List Kept) (view : List ℕ) → is_watched (followed all) view ≡ false
    → ((name : List ℕ) → same_bytes name view ≡ false → table_of new name ≡ table_of old name) → AreKept old all → AreKept new all
kept_where_others old new all view none others h k d p =
    let kept : IsKept old (get_or all k d) = h k d p in
    record { table = kept.table; there = others (get_or all k d).view (not_watched all view none k d p) ∙ kept.there; over = kept.over }

pub raised_where_none : (all : List Followed) (view : List ℕ) (n : ℕ) → is_watched all view ≡ false → followed_by all view n ≡ all
raised_where_none all view n none =
    map_fixed (λ (f : Followed). cond (same_bytes f.view view) (raised n f) f) all
    (λ k d p. ap (λ b. cond b (raised n (get_or all k d)) (get_or all k d)) (none_of (λ (f : Followed). same_bytes f.view view) all none k d p))

-- as a fact that has one proof
pub in_step_where_kept : (views : List NamedTable) (all : List Kept) → AreKept views all → AreInStep views all
in_step_where_kept views all h k d p =
    let kept : IsKept views (get_or all k d) = h k d p in
    record {
      there = subst IsSome (sym kept.there) refl;
      over = λ t e. subst (λ (u : StoredTable). AreNow u.schema u.rows (get_or all k d).watching.watches) (same_Some kept.table t (sym kept.there ∙ e)) kept.over.now;
      quiet = subst IsNone (sym kept.over.noted) refl;
    }

none_from : (o : Option Event) → IsNone o → o ≡ None
none_from None h = refl
none_from (Some e) h = cc

in_step_at : (views : List NamedTable) (k : Kept) → IsInStep views k → (o : Option StoredTable) → table_of views k.view ≡ o → IsSome o → IsKept views k
in_step_at views k h None e some = cc
in_step_at views k h (Some t) e some = record { table = t; there = e; over = record { now = h.over t e; noted = none_from k.watching.noted h.quiet } }

pub kept_where_in_step : (views : List NamedTable) (all : List Kept) → AreInStep views all → AreKept views all
kept_where_in_step views all h k d p = in_step_at views (get_or all k d) (h k d p) (table_of views (get_or all k d).view) refl (h k d p).there
