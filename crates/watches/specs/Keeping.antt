-- What is kept of the watches of views, and when that is what they show.
use Rattle.std.specs.Prelude.{◌≡◌, ◌<◌, ◌≤◌, ℕ, true, false, List, [], ◌∷◌, find, length, map, slice_index_or, All, Option, Some, None, IsSome, IsNone}
use Rattle.std.specs.List.Sorted.{IsPermutation}
use Rattle.watches.specs.Lines.{AreReady}
use Rattle.live.specs.Chains.{AreNow, place_in_root}
use Rattle.live.specs.Numbers.{place_of as place_numbered, watch_of}
use Rattle.live.specs.Putting.{spare}
use Rattle.live.specs.States.{WatchState, Watching}
use Rattle.mk_value.specs.Data.{Datum}
use Rattle.mk_value.specs.Heading.{Attribute}
use Rattle.mk_value.specs.Names.{same_bytes}
use Rattle.mk_value.specs.Tables.{Table}
use Rattle.row_edits.specs.declared.edit.RowEdit.{RowEdit}
use Rattle.tables.specs.Tables.{StoredTable}
use Rattle.view_store.specs.Views.{NamedTable, table_of}
use Rattle.watches.specs.Watches.{Followed, Shown, is_among, place_of, source_of, watch_table}

-- the watches of a view: its name, their names in their order, and what each keeps
pub record Kept : Type 0 where
  pub view : List ℕ
  pub names : List (List ℕ)
  pub watching : Watching

-- a name beside its watch
abbrev pub shown_by : List (List ℕ) → List WatchState → List Shown
shown_by (name ∷ names) (w ∷ watches) =
    record { name = name; source = w.source; op = w.op; followed = w.followed } ∷ shown_by names watches
shown_by _ _ = []

abbrev pub followed_of : Kept → Followed
followed_of k = record { view = k.view; watches = shown_by k.names k.watching.watches }

abbrev pub followed : List Kept → List Followed
followed all = map followed_of all

-- the watches of a view that has this schema and these rows keep the positions of their rows, and wait for an event
pub record IsKeptOver (schema : List Attribute) (rows : List (List Datum)) (k : Kept) : Type 0 where
  pub now : AreNow schema rows k.watching.watches
  pub noted : k.watching.noted ≡ None

-- The watches of a view are kept: the view is there, and they keep the positions of their rows in its rows.
pub record IsKept (views : List NamedTable) (k : Kept) : Type 0 where
  pub table : StoredTable
  pub there : table_of views k.view ≡ Some table
  pub over : IsKeptOver table.schema table.rows k

abbrev pub AreKept : List NamedTable → List Kept → Type 0
AreKept views all = All (IsKept views) all

-- the watch of a name among the watches of its view: it has this number there
pub record IsWatchOf (all : List Kept) (name : List ℕ) (watching : Watching) (number : ℕ) : Type 0 where
  pub watches : Kept
  pub found : find (λ (k : Kept). is_among (followed_of k).watches name) all ≡ Some watches
  pub watching_is : watches.watching ≡ watching
  pub paired : length watches.names ≡ length watching.watches
  pub there : place_numbered watching.watches number < length watching.watches
  pub place : place_numbered watching.watches number ≡ place_of (followed_of watches).watches name

-- a row of a table stands here among these rows
pub record StandsAt (rows : List (List Datum)) (at : ℕ) (table : Option Table) (row : ℕ) : Type 0 where
  pub shown : Table
  pub is : table ≡ Some shown
  pub there : at < length rows
  pub same : slice_index_or rows at [] ≡ slice_index_or shown.rows row []

-- the rows of a watch are those of its view at the places that the watches say
pub record ShowsRows (rows : List (List Datum)) (shown : Table) (watching : Watching) (number : ℕ) : Type 0 where
  pub size : (d : WatchState) → length (watch_of watching.watches number d).kept ≡ length shown.rows
  pub within : (i : ℕ) → i < length shown.rows → place_in_root watching.watches (Some (place_numbered watching.watches number)) i < length rows
  pub same : (i : ℕ) → i < length shown.rows
      → slice_index_or rows (place_in_root watching.watches (Some (place_numbered watching.watches number)) i) [] ≡ slice_index_or shown.rows i []

-- the tables of each name have the same schema and rows, whatever their homes
abbrev pub HaveSameRows : List NamedTable → List NamedTable → Type 0
HaveSameRows old new =
    (name : List ℕ) (t : StoredTable) → table_of old name ≡ Some t → (u : StoredTable) × (table_of new name ≡ Some u) × (u.schema ≡ t.schema) × (u.rows ≡ t.rows)

-- The same, as a fact that has one proof, so that a type can hold it.
pub record IsInStep (views : List NamedTable) (k : Kept) : Type 0 where
  pub there : IsSome (table_of views k.view)
  pub over : (t : StoredTable) → table_of views k.view ≡ Some t → AreNow t.schema t.rows k.watching.watches
  pub quiet : IsNone k.watching.noted

abbrev pub AreInStep : List NamedTable → List Kept → Type 0
AreInStep views all = All (IsInStep views) all

-- those of the view of this name, if it is watched
abbrev pub AreKeptOver : List ℕ → List Attribute → List (List Datum) → List Kept → Type 0
AreKeptOver view schema rows all = All (λ (k : Kept). same_bytes k.view view ≡ true → IsKeptOver schema rows k) all

-- the watches of a view take so many chunks more without memory
abbrev pub HasRoom : ℕ → Kept → Type 0
HasRoom more k = more ≤ spare k.watching

abbrev pub HaveRoom : List ℕ → ℕ → List Kept → Type 0
HaveRoom view more all = All (λ (k : Kept). same_bytes k.view view ≡ true → HasRoom more k) all

-- the watches of a view that has this schema and these rows have noted an edit of them
abbrev pub HasNoted : List Attribute → List (List Datum) → RowEdit → Kept → Type 0
HasNoted schema rows edit k = AreReady schema rows edit k.watching

abbrev pub HaveNoted : List ℕ → List Attribute → List (List Datum) → RowEdit → List Kept → Type 0
HaveNoted view schema rows edit all = All (λ (k : Kept). same_bytes k.view view ≡ true → HasNoted schema rows edit k) all

-- The watches of views are kept, but that those of one may have noted an edit.
pub record IsKeptBut (noting : List ℕ) (views : List NamedTable) (k : Kept) : Type 0 where
  pub table : StoredTable
  pub there : table_of views k.view ≡ Some table
  pub now : AreNow table.schema table.rows k.watching.watches
  pub waits : same_bytes k.view noting ≡ false → k.watching.noted ≡ None

abbrev pub AreKeptBut : List ℕ → List NamedTable → List Kept → Type 0
AreKeptBut noting views all = All (IsKeptBut noting views) all

-- the views are others only in the rows of one, whose schema stays
pub record ChangesRows (view : List ℕ) (schema : List Attribute) (before after : List (List Datum)) (old new : List NamedTable) : Type 0 where
  pub old_table : StoredTable
  pub new_table : StoredTable
  pub was : table_of old view ≡ Some old_table
  pub is : table_of new view ≡ Some new_table
  pub schema_before : old_table.schema ≡ schema
  pub schema_after : new_table.schema ≡ schema
  pub rows_before : old_table.rows ≡ before
  pub rows_after : new_table.rows ≡ after
  pub others : (name : List ℕ) → same_bytes name view ≡ false → table_of new name ≡ table_of old name

-- a watch shows all rows of its view, in whatever order
pub record ShowsAll (views : List NamedTable) (all : List Followed) (name : List ℕ) : Type 0 where
  pub table : StoredTable
  pub shown : Table
  pub there : table_of views (source_of all name).view ≡ Some table
  pub is : watch_table views all name ≡ Some shown
  pub schema : shown.schema ≡ table.schema
  pub rows : IsPermutation table.rows shown.rows

-- the most watches, over all views
abbrev pub max_watches : ℕ
max_watches = 64
