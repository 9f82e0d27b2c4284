-- The watches of one view, and of all, as they are kept. No public clause names these.
use Rattle.std.specs.Prelude.{◌≡◌, ◌≢◌, ◌<◌, ◌≤◌, ℕ, Bool, true, false, if◌then◌else◌, List, [], ◌∷◌, ◌++◌, length, map, slice_index_or, AllPairs, Option, Some, None}
use Rattle.live.specs.Chains.{AreNow}
use Rattle.live.specs.Putting.{spelled}
use Rattle.live.specs.States.{WatchState, Watching}
use Rattle.live.specs.declared.op.WatchOp.{WatchOp}
use Rattle.mk_value.specs.Data.{Datum}
use Rattle.mk_value.specs.Heading.{Attribute}
use Rattle.mk_value.specs.Names.{same_bytes}
use Rattle.row_edits.specs.declared.edit.RowEdit.{RowEdit}
use Rattle.watches.specs.Keeping.{HasNoted, HasRoom, IsKeptOver, Kept, followed, followed_of, max_watches}
use Rattle.watches.specs.Watches.{Shown, count, raised, rows_shown}

-- watches have numbers of their own
abbrev pub AreNumbered : List WatchState → Type 0
AreNumbered watches = AllPairs (λ (a b : WatchState). a.number ≢ b.number) watches

-- names beside watches: one for each, of which there is at least one
pub record AreNamed (names : List (List ℕ)) (watches : List WatchState) : Type 0 where
  pub paired : length names ≡ length watches
  pub some : 0 < length names
  pub numbered : AreNumbered watches

-- the watches of views: each view is listed once, and there are not too many watches
pub record AreWhole (all : List Kept) : Type 0 where
  pub distinct : AllPairs (λ (a b : List ℕ). same_bytes a b ≡ false) (map (λ (k : Kept). k.view) all)
  pub few : count (followed all) ≤ max_watches

-- a watch of a name, which has so many rows and has followed nothing, is put behind others
pub record IsPutBehind (schema : List Attribute) (rows : List (List Datum)) (names : List (List ℕ)) (old : List WatchState) (name : List ℕ) (over : Option ℕ) (op : WatchOp) (new_names : List (List ℕ)) (new : Watching) (size : ℕ) : Type 0 where
  pub watch : WatchState
  pub last : new.watches ≡ old ++ watch ∷ []
  pub named : new_names ≡ names ++ name ∷ []
  pub numbered : AreNumbered new.watches
  pub source : watch.source ≡ over
  pub asked : watch.op ≡ spelled schema op
  pub fresh : watch.followed ≡ 0
  pub long : length watch.kept ≡ size
  pub now : AreNow schema rows new.watches
  pub noted : new.noted ≡ None

-- a watch of a name is put behind the others of a view that has this schema and these rows
pub record IsPutOver (schema : List Attribute) (rows : List (List Datum)) (old : List Shown) (name : List ℕ) (over : Option ℕ) (op : WatchOp) (new : Kept) (size : ℕ) : Type 0 where
  pub watches : (followed_of new).watches ≡ old ++ record { name = name; source = over; op = spelled schema op; followed = 0 } ∷ []
  pub kept : IsKeptOver schema rows new
  pub long : length (slice_index_or (rows_shown schema rows [] (followed_of new).watches) (length old) []) ≡ size

-- a first watch is put over a view, behind the watches of the others
pub record IsFirst (schema : List Attribute) (rows : List (List Datum)) (view name : List ℕ) (op : WatchOp) (old new : List Kept) (size : ℕ) : Type 0 where
  pub watches : Kept
  pub over : watches.view ≡ view
  pub put : IsPutOver schema rows [] name None op watches size
  pub last : new ≡ old ++ watches ∷ []

-- each of the watches of views has become another
pub record AreEach (R : Kept → Kept → Type 0) (old new : List Kept) : Type 0 where
  pub long : length new ≡ length old
  pub each : (k : ℕ) (d : Kept) → k < length old → R (slice_index_or old k d) (slice_index_or new k d)

-- the watches of a view are what they were but for room
pub record Stays (old new : Kept) : Type 0 where
  pub same : followed_of new ≡ followed_of old
  pub kept : (schema : List Attribute) (rows : List (List Datum)) → IsKeptOver schema rows old → IsKeptOver schema rows new

-- and there is room for so many chunks more, where it is the view of the name
pub record IsReserved (view : List ℕ) (more : ℕ) (old new : Kept) : Type 0 where
  pub stays : Stays old new
  pub room : same_bytes new.view view ≡ true → HasRoom more new

-- the watches of a view of this name have noted an edit of rows of this schema; those of another are as they were
pub record Notes (view : List ℕ) (schema : List Attribute) (rows : List (List Datum)) (edit : RowEdit) (old new : Kept) : Type 0 where
  pub same : followed_of new ≡ followed_of old
  pub now : (s : List Attribute) (rs : List (List Datum)) → AreNow s rs old.watching.watches → AreNow s rs new.watching.watches
  pub noted : same_bytes old.view view ≡ true → HasNoted schema rows edit new
  pub others : same_bytes old.view view ≡ false → new ≡ old

-- the watches of a view of this name wait for an event again
pub record Forgets (view : List ℕ) (old new : Kept) : Type 0 where
  pub same : followed_of new ≡ followed_of old
  pub now : (s : List Attribute) (rs : List (List Datum)) → AreNow s rs old.watching.watches → AreNow s rs new.watching.watches
  pub waits : same_bytes old.view view ≡ true → new.watching.noted ≡ None
  pub others : same_bytes old.view view ≡ false → new ≡ old

-- the watches of a view of this name have followed so many events, to these rows; those of another are as they were
pub record Follows (view : List ℕ) (events : ℕ) (schema : List Attribute) (rows : List (List Datum)) (old new : Kept) : Type 0 where
  pub followed : followed_of new ≡ (if same_bytes old.view view then raised events (followed_of old) else followed_of old)
  pub kept : same_bytes old.view view ≡ true → IsKeptOver schema rows new
  pub others : same_bytes old.view view ≡ false → new ≡ old

-- whether a source is a watch of a name, among watches of these names
abbrev pub is_source : List (List ℕ) → List ℕ → Option ℕ → Bool
is_source names name None = false
is_source names name (Some k) = same_bytes (slice_index_or names k []) name
