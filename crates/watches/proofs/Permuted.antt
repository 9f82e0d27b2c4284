-- Watches that sort show all rows of their view.
use Rattle.std.proofs.Common.{◌≡◌, ◌<◌, ℕ, Bool, true, false, cond, List, [], ◌∷◌, length, get_or, Some, refl, ap, sym, subst, ◌∙◌}
use Rattle.std.specs.List.Sorted.{IsPermutation}
use Rattle.std.specs.Ordering.{is_gt}
use Rattle.std.specs.declared.cmp.Ordering.{Ordering}
use Rattle.std.proofs.lemmas.List.Sorted.{IsPermutation-cons, IsPermutation-middle, IsPermutation-refl, IsPermutation-sym, IsPermutation-trans}
use Rattle.mk_value.specs.Data.{Datum}
use Rattle.mk_value.specs.Heading.{Attribute}
use Rattle.tables.specs.Tables.{StoredTable}
use Rattle.view_store.specs.Views.{NamedTable, table_of}
use Rattle.relations.specs.Sorting.{put, row_cmp, sorted}
use Rattle.relations.specs.declared.criteria.Key.{Key}
use Rattle.live.specs.Chains.{AreNow, seen}
use Rattle.live.specs.Laws.{shown}
use Rattle.live.specs.States.{WatchState}
use Rattle.live.specs.declared.op.WatchOp.TheVariants.{Sort}
use Rattle.live.proofs.Standing.{seen_shown}
use Rattle.watches.specs.Keeping.{AreKept, IsKept, IsKeptOver, Kept, ShowsAll, followed, followed_of}
use Rattle.watches.specs.Watches.{is_among, place_of, shown_at}
use Rattle.watches.proofs.Finding.{found_in}
use Rattle.watches.proofs.Shown.{StandsNamed, source_found, table_found}

-- sorting puts rows into another order
put_permutes : {X : Type 0} (cmp : X → X → Ordering) (x : X) (ys : List X) → IsPermutation (x ∷ ys) (put cmp x ys)
put_permutes cmp x [] = IsPermutation-refl (x ∷ [])
put_permutes cmp x (y ∷ ys) = at (is_gt (cmp x y)) (put_permutes cmp x ys)
  where
    at : (b : Bool) → IsPermutation (x ∷ ys) (put cmp x ys) → IsPermutation (x ∷ y ∷ ys) (cond b (y ∷ put cmp x ys) (x ∷ y ∷ ys))
    at true h =
        IsPermutation-trans (x ∷ y ∷ ys) (y ∷ x ∷ ys) (y ∷ put cmp x ys)
        (IsPermutation-sym (y ∷ x ∷ ys) (x ∷ y ∷ ys) (IsPermutation-middle (y ∷ []) x ys)) (IsPermutation-cons y (x ∷ ys) (put cmp x ys) h)
    at false h = IsPermutation-refl (x ∷ y ∷ ys)

sorted_permutes : {X : Type 0} (cmp : X → X → Ordering) (xs : List X) → IsPermutation xs (sorted cmp xs)
sorted_permutes cmp [] = IsPermutation-refl []
sorted_permutes cmp (x ∷ xs) =
    IsPermutation-trans (x ∷ xs) (x ∷ sorted cmp xs) (put cmp x (sorted cmp xs)) (IsPermutation-cons x xs (sorted cmp xs) (sorted_permutes cmp xs)) (put_permutes cmp x (sorted cmp xs))

-- a watch that sorts what has all rows has all rows
pub sorts_all : (schema : List Attribute) (rows : List (List Datum)) (watches : List WatchState) (k : ℕ) (d : WatchState) (keys : List Key) → AreNow schema rows watches → k < length watches
    → (get_or watches k d).op ≡ Sort keys → IsPermutation rows (seen rows watches (get_or watches k d).source) → IsPermutation rows (seen rows watches (Some k))
sorts_all schema rows watches k d keys now there op below =
    let source = seen rows watches (get_or watches k d).source in
    let is : seen rows watches (Some k) ≡ sorted (row_cmp schema keys) source = seen_shown schema rows watches k d now there ∙ ap (λ o. shown schema o source) op in
    subst (IsPermutation rows) (sym is) (IsPermutation-trans rows source (sorted (row_cmp schema keys) source) below (sorted_permutes (row_cmp schema keys) source))

-- the watch of a name shows all rows of its view
pub shows_named : (views : List NamedTable) (all : List Kept) (name : List ℕ) (k : Kept) → AreKept views all → StandsNamed all name k
    → ((t : StoredTable) → IsKeptOver t.schema t.rows k → IsPermutation t.rows (shown_at (followed_of k).watches (place_of (followed_of k).watches name) t).rows) → ShowsAll views (followed all) name
shows_named views all name k h named permutes =
    let kept : IsKept views k = found_in (λ (k : Kept). is_among (followed_of k).watches name) (IsKept views) all k h named.first in
    let t = kept.table in
    record {
      table = t;
      shown = shown_at (followed_of k).watches (place_of (followed_of k).watches name) t;
      there = ap (λ s. table_of views s.view) (source_found (followed all) name (followed_of k) named.there) ∙ kept.there;
      is = table_found views (followed all) name (followed_of k) t named.there kept.there;
      schema = refl;
      rows = permutes t kept.over;
    }
