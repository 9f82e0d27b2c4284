-- What the watch of a name shows, by the views.
use Rattle.std.proofs.Common.{◌≡◌, ℕ, true, false, List, [], length, get_or, position, Some, None, refl, ap, sym, subst, ◌∙◌, arith}
use Rattle.std.specs.Prelude.{find}
use Rattle.std.specs.List.{list_any}
use Rattle.std.specs.Option.{option_map}
use Rattle.std.proofs.lemmas.List.Folds.{list_any_none}
use Rattle.mk_value.specs.Tables.{Table}
use Rattle.tables.specs.Tables.{StoredTable}
use Rattle.view_store.specs.Views.{NamedTable, table_of}
use Rattle.live.specs.Chains.{AreNow, seen}
use Rattle.live.specs.Numbers.{place_of as place_numbered}
use Rattle.live.specs.States.{WatchState, Watching}
use Rattle.live.proofs.Leading.{row_stands}
use Rattle.live.proofs.Seeing.{seen_size}
use Rattle.watches.specs.Keeping.{AreKept, IsKept, IsWatchOf, Kept, ShowsRows, followed, followed_of}
use Rattle.watches.specs.Watches.{Followed, found, is_among, is_watch, place_of, shown_at, shown_in, source_in, source_of, watch_table}
use Rattle.watches.proofs.Finding.{any_map, find_first, find_map, find_none, first_at, found_in, none_at}
use Rattle.watches.proofs.Grouped.{any_watch}
use Rattle.watches.proofs.Showing.{seen_at_place}

-- those among whose watches one has the name
pub found_kept : (all : List Kept) (name : List ℕ) (k : Kept) → find (λ (k : Kept). is_among (followed_of k).watches name) all ≡ Some k → found (followed all) name ≡ Some (followed_of k)
found_kept all name k e = find_map (λ (f : Followed). is_among f.watches name) followed_of all ∙ ap (option_map followed_of) e

-- the watches of a view among which one has a name, by their place
pub record StandsNamed (all : List Kept) (name : List ℕ) (k : Kept) : Type 0 where
  pub first : find (λ (k : Kept). is_among (followed_of k).watches name) all ≡ Some k
  pub there : found (followed all) name ≡ Some (followed_of k)
  pub has : is_among (followed_of k).watches name ≡ true

pub named_at : (all xs ys : List Kept) (name : List ℕ) (at : ℕ) (k : Kept) → xs ≡ all → ys ≡ xs → position (λ (k : Kept). is_among (followed_of k).watches name) ys ≡ Some at → k ≡ get_or xs at k → StandsNamed all name k
named_at all xs ys name at k same lent e is =
    let test = λ (k : Kept). is_among (followed_of k).watches name in
    let first = first_at test all at k (ap (position test) (sym (lent ∙ same)) ∙ e) in
    let here : k ≡ get_or all at k = is ∙ ap (λ zs. get_or zs at k) same in
    let found_is = find_first test all at k first ∙ ap Some (sym here) in
    record { first = found_is; there = found_kept all name k found_is; has = ap test here ∙ first.here k }

pub absent_at : (all xs ys : List Kept) (name : List ℕ) → xs ≡ all → ys ≡ xs → position (λ (k : Kept). is_among (followed_of k).watches name) ys ≡ None → (found (followed all) name ≡ None) × (is_watch (followed all) name ≡ false)
absent_at all xs ys name same lent e =
    let test = λ (k : Kept). is_among (followed_of k).watches name in
    let none = none_at test all (ap (position test) (sym (lent ∙ same)) ∙ e) in (
      find_map (λ (f : Followed). is_among f.watches name) followed_of all ∙ ap (option_map followed_of) (find_none test all none),
      any_map (λ (f : Followed). is_among f.watches name) followed_of all ∙ list_any_none test all none,
    )

-- a watch has the name
pub any_named : (all xs : List Kept) (name : List ℕ) → xs ≡ all → is_watch (followed all) name ≡ list_any (λ (k : Kept). is_among (followed_of k).watches name) xs
any_named all xs name same =
    any_map (λ (f : Followed). is_among f.watches name) followed_of all ∙ ap (list_any (λ (k : Kept). is_among (followed_of k).watches name)) (sym same)

pub source_found : (all : List Followed) (name : List ℕ) (f : Followed) → found all name ≡ Some f → source_of all name ≡ source_in (Some f) name
source_found all name f e = ap (λ o. source_in o name) e

pub table_found : (views : List NamedTable) (all : List Followed) (name : List ℕ) (f : Followed) (t : StoredTable) → found all name ≡ Some f → table_of views f.view ≡ Some t
    → watch_table views all name ≡ Some (shown_at f.watches (place_of f.watches name) t)
table_found views all name f t e is = ap (λ o. shown_in views o name) e ∙ ap (option_map (shown_at f.watches (place_of f.watches name))) is

pub watch_shows : (views : List NamedTable) (all : List Kept) (name : List ℕ) (watching : Watching) (number : ℕ) → AreKept views all → IsWatchOf all name watching number
    → (t : StoredTable) × (shown : Table) × (table_of views (source_of (followed all) name).view ≡ Some t) × (watch_table views (followed all) name ≡ Some shown) × ShowsRows t.rows shown watching number × AreNow t.schema t.rows watching.watches
watch_shows views all name watching number h is =
    let k = is.watches in
    let kept : IsKept views k = found_in (λ (k : Kept). is_among (followed_of k).watches name) (IsKept views) all k h is.found in
    let t = kept.table in
    let f = followed_of k in
    let at = place_numbered watching.watches number in
    let place = place_of f.watches name in
    let there = found_kept all name k is.found in
    let paired : length k.names ≡ length k.watching.watches = is.paired ∙ ap (λ (w : Watching). length w.watches) (sym is.watching_is) in
    let seen_is : (shown_at f.watches place t).rows ≡ seen t.rows watching.watches (Some at) =
    seen_at_place t.schema t.rows k.names k.watching.watches paired kept.over.now (Some place)
    ∙ ap (λ i. seen t.rows k.watching.watches (Some i)) (sym is.place) ∙ ap (λ (w : Watching). seen t.rows w.watches (Some at)) is.watching_is in
    let now = subst (λ (w : Watching). AreNow t.schema t.rows w.watches) is.watching_is kept.over.now in
    let size : (d : WatchState) → length (get_or watching.watches at d).kept ≡ length (shown_at f.watches place t).rows =
    λ d. sym (seen_size t.rows watching.watches (Some at) now.sources at d refl is.there) ∙ ap length (sym seen_is) in (
      t,
      shown_at f.watches place t,
      ap (λ s. table_of views s.view) (source_found (followed all) name f there) ∙ kept.there,
      table_found views (followed all) name f t there kept.there,
      record {
        size = size;
        within = λ i p. let long = size any_watch in (row_stands t.schema t.rows watching.watches at any_watch i now is.there (omega arith)).0;
        same = λ i p.
            let long = size any_watch in
            (row_stands t.schema t.rows watching.watches at any_watch i now is.there (omega arith)).1 ∙ ap (λ rows. get_or rows i []) (sym seen_is);
      },
      now,
    )
