-- Lines on views, one after another, and what their watches keep and count over them.
use Rattle.std.specs.Prelude.{◌≡◌, ◌+◌, ℕ, if◌then◌else◌, List, [], ◌∷◌, map}
use Rattle.mk_value.specs.Data.{Datum}
use Rattle.mk_value.specs.Heading.{Attribute}
use Rattle.mk_value.specs.Names.{same_bytes}
use Rattle.row_edits.specs.Events.{count_all}
use Rattle.row_edits.specs.Lines.{IsLine}
use Rattle.row_edits.specs.declared.edit.RowEdit.{RowEdit}
use Rattle.view_store.specs.Views.{NamedTable}
use Rattle.watches.specs.Keeping.{AreKept, ChangesRows, Kept, followed}
use Rattle.watches.specs.Watches.{Followed, followed_by, raised}

-- A line on a view that was followed: its edits, and all views and all watches after it.
pub record Lined : Type 0 where
  pub view : List ℕ
  pub edits : List RowEdit
  pub views : List NamedTable
  pub watches : List Kept

-- The edits made the rows of the view after the line of those before it and changed no other view, and the watches followed: what the contract
-- of `follow` says of the call.
pub record IsFollowed (views : List NamedTable) (old : List Kept) (l : Lined) : Type 0 where
  pub schema : List Attribute
  pub before : List (List Datum)
  pub after : List (List Datum)
  pub home : ℕ
  pub line : IsLine l.edits home before after
  pub changes : ChangesRows l.view schema before after views l.views
  pub counted : followed l.watches ≡ followed_by (followed old) l.view (count_all l.edits)
  pub keeps : (from to : List NamedTable) → AreKept from old → ChangesRows l.view schema before after from to → AreKept to l.watches

-- the lines were followed one after another
abbrev pub AreFollowed : List NamedTable → List Kept → List Lined → Type 0
AreFollowed views old [] = Unit {0}
AreFollowed views old (l ∷ later) = IsFollowed views old l × AreFollowed l.views l.watches later

-- the views and the watches after the last line
abbrev pub last_views : List NamedTable → List Lined → List NamedTable
last_views views [] = views
last_views views (l ∷ later) = last_views l.views later

abbrev pub last_watches : List Kept → List Lined → List Kept
last_watches watches [] = watches
last_watches watches (l ∷ later) = last_watches l.watches later

-- how many events the lines are on a view: one for each of its rows that their edits put in, take out or change
abbrev pub events_on : List Lined → List ℕ → ℕ
events_on [] view = 0
events_on (l ∷ later) view = (if same_bytes view l.view then count_all l.edits else 0) + events_on later view

-- Over a list of lines, the watches keep the positions of what they show, and those of each view have followed the events on it.
pub record HaveFollowedLines (views : List NamedTable) (old : List Kept) (lines : List Lined) : Type 0 where
  pub kept : AreKept (last_views views lines) (last_watches old lines)
  pub counted : followed (last_watches old lines) ≡ map (λ (f : Followed). raised (events_on lines f.view) f) (followed old)
