-- The watches of views once the views are others.
use Rattle.std.proofs.Common.{◌≡◌, ℕ, true, false, cond, suc, List, [], ◌∷◌, length, get_or, map, Option, Some, None, MatchOption, refl, ap, sym, subst, ◌∙◌, arith}
use Rattle.std.specs.Option.{option_map}
use Rattle.std.specs.Prelude.{find}
use Rattle.std.proofs.lemmas.Bool.{false≢true}
use Rattle.std.proofs.lemmas.List.{get_or-map}
use Rattle.commit_plan.specs.Following.{NamedRows, rows_of_views}
use Rattle.commit_plan.specs.Plans.{Planned}
use Rattle.watches.specs.Keeping.{AreKept, HaveSameRows, IsKept, IsWatchOf, Kept, followed, followed_of, shown_by}
use Rattle.watches.proofs.Holding.{kept_where_others}
use Rattle.watches.proofs.Shown.{found_kept, watch_shows}
use Rattle.watches.specs.Watches.{Shown, is_watch}
use Rattle.live.specs.Numbers.{place_of as place_numbered, watch_of}
use Rattle.live.specs.States.{WatchState, Watching}
use Rattle.view_store.proofs.Roots.{same_name}
use Rattle.session.specs.Following.{KeepsPositions, events_followed, events_in}
use Rattle.session.specs.World.{World}
use Rattle.session.proofs.LinesOn.{other_name}
use Rattle.watches.specs.Watches.{is_watched}
use Rattle.mk_value.specs.Names.{same_bytes}
use Rattle.relations.proofs.Faults.{cases}
use Rattle.session.specs.Disk.{IsNext}
use Rattle.storage.specs.Stored.{Stored}
use Rattle.tables.specs.Tables.{StoredTable}
use Rattle.view_store.specs.Views.{NamedTable, table_of, with_view, without_view}

some_is : {X : Type 0} (x y : X) → Some x ≡ Some y → x ≡ y
some_is x y e = cc

-- views with the same names and rows
head_is : {X : Type 0} (x y : X) (xs ys : List X) → x ∷ xs ≡ y ∷ ys → x ≡ y
head_is x y xs ys e = cc

tail_is : {X : Type 0} (x y : X) (xs ys : List X) → x ∷ xs ≡ y ∷ ys → xs ≡ ys
tail_is x y xs ys e = cc

abbrev row_of : NamedTable → NamedRows
row_of v = record { name = v.name; schema = v.table.schema; rows = v.table.rows }

same_first : (old new : List NamedTable) → rows_of_views new ≡ rows_of_views old → HaveSameRows old new
same_first [] new h name t found = absurd (let f : ◌≡◌ {A = Option StoredTable} None (Some t) = found in cc)
same_first (v ∷ old) [] h name t found = absurd (let f : ◌≡◌ {A = List NamedRows} [] (row_of v ∷ rows_of_views old) = h in cc)
same_first (v ∷ old) (w ∷ new) h name t found =
    let first : row_of w ≡ row_of v = head_is (row_of w) (row_of v) (rows_of_views new) (rows_of_views old) h in
    let named : w.name ≡ v.name = ap (λ (r : NamedRows). r.name) first in
    let rest = tail_is (row_of w) (row_of v) (rows_of_views new) (rows_of_views old) h in
    cases (same_bytes v.name name)
    (λ e. let is : v.table ≡ t = some_is v.table t (rw e at found) in (
      w.table,
      ap (λ b. option_map (λ (x : NamedTable). x.table) (cond b (Some w) (find (λ (x : NamedTable). same_bytes x.name name) new))) (ap (λ n. same_bytes n name) named ∙ e),
      ap (λ (r : NamedRows). r.schema) first ∙ ap (λ (u : StoredTable). u.schema) is,
      ap (λ (r : NamedRows). r.rows) first ∙ ap (λ (u : StoredTable). u.rows) is,
    ))
    (λ e. let there = same_first old new rest name t (rw e at found) in (
      there.0,
      ap (λ b. option_map (λ (x : NamedTable). x.table) (cond b (Some w) (find (λ (x : NamedTable). same_bytes x.name name) new))) (ap (λ n. same_bytes n name) named ∙ e) ∙ there.1,
      there.2,
      there.3,
    ))

-- a commit keeps the names and the rows
pub commit_same : (s : Stored) (note : List ℕ) (planned : Planned) → IsNext s note planned → HaveSameRows s.views planned.next.views
commit_same s note planned next = same_first s.views planned.next.views next.follows.same_rows

-- another table of a view that nothing watches, and a view that goes
pub other_with : (views : List NamedTable) (name : List ℕ) (t : StoredTable) (n : List ℕ) → same_bytes n name ≡ false → table_of (with_view views name t) n ≡ table_of views n
other_with [] name t n h = cases (same_bytes name n)
    (λ e. absurd (other_name name n e h))
    (λ e. rw e refl)
other_with (v ∷ views) name t n h = cases (same_bytes v.name name)
    (λ e. rw e (cases (same_bytes v.name n)
    (λ f. absurd (false≢true (sym h ∙ subst (λ m. same_bytes m name ≡ true) (same_name v.name n f) e)))
    (λ f. rw f refl)))
    (λ e. rw e (cases (same_bytes v.name n)
    (λ f. rw f refl)
    (λ f. rw f (other_with views name t n h))))

pub other_without : (views : List NamedTable) (name n : List ℕ) → same_bytes n name ≡ false → table_of (without_view views name) n ≡ table_of views n
other_without [] name n h = refl
other_without (v ∷ views) name n h = cases (same_bytes v.name name)
    (λ e. rw e (cases (same_bytes v.name n)
    (λ f. absurd (false≢true (sym h ∙ subst (λ m. same_bytes m name ≡ true) (same_name v.name n f) e)))
    (λ f. rw f refl)))
    (λ e. rw e (cases (same_bytes v.name n)
    (λ f. rw f refl)
    (λ f. rw f (other_without views name n h))))

pub kept_with : (views : List NamedTable) (all : List Kept) (name : List ℕ) (t : StoredTable) → is_watched (followed all) name ≡ false → AreKept views all → AreKept (with_view views name t) all
kept_with views all name t none h = kept_where_others views (with_view views name t) all name none (other_with views name t) h

pub kept_without : (views : List NamedTable) (all : List Kept) (name : List ℕ) → is_watched (followed all) name ≡ false → AreKept views all → AreKept (without_view views name) all
kept_without views all name none h = kept_where_others views (without_view views name) all name none (other_without views name) h

-- nothing watches a view that is not there
pub absent_unwatched : (views : List NamedTable) (all : List Kept) (name : List ℕ) → AreKept views all → table_of views name ≡ None → is_watched (followed all) name ≡ false
absent_unwatched views [] name h none = refl
absent_unwatched views (k ∷ all) name h none = cases (same_bytes k.view name)
    (λ e. let first : IsKept views k = h 0 k (omega arith) in
    absurd (let f : ◌≡◌ {A = Option StoredTable} (Some first.table) None = sym first.there ∙ ap (λ n. table_of views n) (same_name k.view name e) ∙ none in cc))
    (λ e. rw e (absent_unwatched views all name (λ i d p. h (suc i) d (omega (arith, p))) none))

-- the counts of watches beside their names are those of the watches
counts_beside : (names : List (List ℕ)) (watches : List WatchState) → length names ≡ length watches → map (λ (s : Shown). s.followed) (shown_by names watches) ≡ map (λ (s : WatchState). s.followed) watches
counts_beside [] [] e = refl
counts_beside [] (s ∷ watches) e = absurd (omega (arith, e))
counts_beside (name ∷ names) [] e = absurd (omega (arith, e))
counts_beside (name ∷ names) (s ∷ watches) e = ap (λ xs. s.followed ∷ xs) (counts_beside names watches (omega (arith, e)))

-- how many events a watch has followed
events_kept : (all : List Kept) (name : List ℕ) (watching : Watching) (number : ℕ) → IsWatchOf all name watching number
    → (d : WatchState) → (watch_of watching.watches number d).followed ≡ events_followed (followed all) name
events_kept all name watching number is d =
    let k = is.watches in
    let at = place_numbered watching.watches number in
    let paired : length k.names ≡ length k.watching.watches = is.paired ∙ ap (λ (w : Watching). length w.watches) (sym is.watching_is) in
    sym (get_or-map (λ (s : WatchState). s.followed) watching.watches at d 0 is.there)
    ∙ ap (λ (w : Watching). get_or (map (λ (s : WatchState). s.followed) w.watches) at 0) (sym is.watching_is)
    ∙ ap (λ (xs : List ℕ). get_or xs at 0) (sym (counts_beside k.names k.watching.watches paired))
    ∙ ap (λ i. get_or (map (λ (s : Shown). s.followed) (followed_of k).watches) i 0) is.place
    ∙ sym (ap (λ o. events_in o name) (found_kept all name k is.found))

-- what a watch keeps
pub keeps_positions : {R : Type 0} (w : World) (all : List Kept) (name : List ℕ) (r : Option R) (watching : R → Watching) (number : R → ℕ) → followed all ≡ w.watches → AreKept w.store.views all
    → MatchOption r (is_watch (followed all) name ≡ false) (λ x. IsWatchOf all name (watching x) (number x))
    → MatchOption r (is_watch w.watches name ≡ false) (λ x. KeepsPositions w name (watching x) (number x))
keeps_positions w all name None watching number same kept h = subst (λ ws. is_watch ws name ≡ false) same h
keeps_positions w all name (Some x) watching number same kept h =
    let s = watch_shows w.store.views all name (watching x) (number x) kept h in
    subst (λ ws. KeepsPositions (record w { watches = ws }) name (watching x) (number x)) same
    (record {
      named = followed_of h.watches;
      listed = found_kept all name h.watches h.found;
      names = h.watches.names;
      beside = ap (λ (k : Watching). shown_by h.watches.names k.watches) h.watching_is;
      view = s.0;
      shown = s.1;
      over = s.2;
      shows = s.3;
      keeps = s.4;
      now = s.5;
      there = h.there;
      counts = events_kept all name (watching x) (number x) h;
    })
