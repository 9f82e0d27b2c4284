-- A line that edits the view of a path, as an edit of the rows of the view itself; and what a watch keeps.
use Rattle.std.specs.Prelude.{◌≡◌, ◌<◌, ℕ, false, List, [], ◌∷◌, length, map, slice_index_or, Option, None, Some}
use Rattle.watches.specs.Keeping.{ShowsRows, shown_by}
use Rattle.watches.specs.Watches.{Followed, Shown, found, place_of, watch_table}
use Rattle.live.specs.Chains.{AreNow}
use Rattle.live.specs.Numbers.{place_of as place_numbered, watch_of}
use Rattle.live.specs.States.{WatchState, Watching}
use Rattle.mk_value.specs.Names.{same_bytes}
use Rattle.mk_value.specs.Tables.{Table}
use Rattle.mk_value.specs.declared.path.Step.{Step}
use Rattle.row_edits.specs.Lines.{IsLine}
use Rattle.row_edits.specs.declared.edit.RowEdit.{RowEdit}
use Rattle.row_edits.specs.declared.edit.RowEdit.TheVariants.{Change}
use Rattle.tables.specs.Tables.{StoredTable}
use Rattle.view_store.specs.Views.{NamedTable, table_of}
use Rattle.session.specs.Naming.{table_under}
use Rattle.session.specs.World.{World}

-- an edit where the steps lead, and where the row that comes with it stands: inside a row it is a change of that row
abbrev pub edit_at : List Step → RowEdit → RowEdit
edit_at [] e = e
edit_at (s ∷ steps) e = Change s.row

abbrev pub home_at : List Step → ℕ → ℕ
home_at [] home = home
home_at (s ∷ steps) home = s.row

-- the views are others only in the rows of one, of which an edit made these
pub record IsLineOn (view : List ℕ) (edit : RowEdit) (home : ℕ) (old new : List NamedTable) : Type 0 where
  pub before : StoredTable
  pub after : StoredTable
  pub was : table_of old view ≡ Some before
  pub is : table_of new view ≡ Some after
  pub schema : after.schema ≡ before.schema
  pub line : IsLine (edit ∷ []) home before.rows after.rows
  pub others : (name : List ℕ) → same_bytes name view ≡ false → table_of new name ≡ table_of old name

-- how many events the watch of a name has followed
abbrev pub events_in : Option Followed → List ℕ → ℕ
events_in None name = 0
events_in (Some f) name = slice_index_or (map (λ (s : Shown). s.followed) f.watches) (place_of f.watches name) 0

abbrev pub events_followed : List Followed → List ℕ → ℕ
events_followed watches name = events_in (found watches name) name

-- The positions of a watch of a number, among the watches of its view, are those of the rows that the watch of a name shows, and it has
-- followed as many events. Each watch of the view keeps the positions that its operator gives over the rows of its source, so that of rows
-- that are the same each has its own position, and in the order that the operator gives.
pub record KeepsPositions (w : World) (name : List ℕ) (watching : Watching) (number : ℕ) : Type 0 where
  -- the watches of the view by name: what they show and how many events they have followed is what is kept
  pub named : Followed
  pub listed : found w.watches name ≡ Some named
  pub names : List (List ℕ)
  pub beside : named.watches ≡ shown_by names watching.watches
  pub view : StoredTable
  pub shown : Table
  pub over : table_under w name ≡ Some view
  pub shows : watch_table w.store.views w.watches name ≡ Some shown
  pub keeps : ShowsRows view.rows shown watching number
  pub now : AreNow view.schema view.rows watching.watches
  pub there : place_numbered watching.watches number < length watching.watches
  pub counts : (d : WatchState) → (watch_of watching.watches number d).followed ≡ events_followed w.watches name
