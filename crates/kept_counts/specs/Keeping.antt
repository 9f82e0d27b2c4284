-- What is kept of views, and when that is of the views' rows.
use Rattle.std.specs.Prelude.{◌≡◌, ◌<◌, ℕ, Bool, true, false, ◌==◌, ◌&&◌, ◌||◌, nat_lt, if◌then◌else◌, List, length, map, All, Option, Some, None}
use Rattle.std.specs.Cmp.Lexicographic.{pointwise}
use Rattle.std.specs.List.{list_any}
use Rattle.std.specs.List.Sorted.{IsPermutation}
use Rattle.std.specs.Option.{ForSome, is_none, option_map}
use Rattle.derived.specs.Grouping.{counts}
use Rattle.derived.specs.Layers.{Layered, table_of as table_derived}
use Rattle.derived.specs.Refusals.{counts_due}
use Rattle.derived.specs.Viewing.{keep, keep_due}
use Rattle.live.specs.declared.op.WatchOp.{WatchOp}
use Rattle.live.specs.declared.op.WatchOp.TheVariants.{Sort}
use Rattle.live_counts.specs.Counting.{AreCounts, keys_in}
use Rattle.live_counts.specs.Filtering.{IsFiltered}
use Rattle.live_counts.specs.States.{CountsState, FilterState}
use Rattle.mk_value.specs.Data.{Datum}
use Rattle.mk_value.specs.Heading.{Attribute}
use Rattle.mk_value.specs.Names.{same_bytes}
use Rattle.mk_value.specs.Tables.{Table}
use Rattle.relations.specs.Columns.{column_of}
use Rattle.relations.specs.Refusals.{a_view, absent}
use Rattle.relations.specs.Rows.{once}
use Rattle.row_edits.specs.Edits.{IsInRange}
use Rattle.row_edits.specs.declared.edit.RowEdit.{RowEdit}
use Rattle.row_edits.specs.declared.edit.RowEdit.TheVariants.{Insert, Remove, Change}
use Rattle.row_edits.specs.declared.event.Event.{Event}
use Rattle.row_edits.specs.declared.event.Event.TheVariants as event
use Rattle.tables.specs.Tables.{StoredTable}
use Rattle.view_store.specs.Views.{NamedTable, table_of}
use Rattle.viewed.specs.Asking.{is_kept as passes}
use Rattle.viewers.specs.Laws.{gives}
use Rattle.viewers.specs.Meanings.{Meaning}
use Rattle.viewers.specs.declared.law.Law.{Law}
use Rattle.viewers.specs.declared.law.Law.TheVariants.{Length, Twice, Sum}
use Rattle.kept_counts.specs.declared.kept.Kept.{Kept}
use Rattle.kept_counts.specs.declared.kept.Kept.TheVariants.{Counts, Filter}

-- what is kept of a view: its name, and what follows its rows, or nothing where that is to be made anew
pub record Counted : Type 0 where
  pub view : List ℕ
  pub kept : Option Kept

-- what may be kept of the rows of a view: their counts by the keys of these names; and those of them that a law keeps by the properties
-- of these names
pub data What : Type 0 where
  counted_by : List (List ℕ) → What
  kept_by : Law → List (List ℕ) → What

abbrev pub what_of : Kept → What
what_of (Counts keys counts) = counted_by keys
what_of (Filter law props filter) = kept_by law props

-- the table that a stored one is, whatever its homes
abbrev pub table_stored : StoredTable → Table
table_stored t = record { schema = t.schema; rows = t.rows }

-- the sorting by the keys of these names, each once
abbrev pub by_keys : List Attribute → List (List ℕ) → WatchOp
by_keys schema keys = Sort (keys_in schema (map (column_of schema) (once keys)))

-- rows of the schema may be counted by these keys: there is one, and each is a property that is no view
abbrev pub may_key : List Attribute → List (List ℕ) → Bool
may_key schema keys = nat_lt 0 (length keys) && (is_none (absent schema keys) && is_none (a_view schema keys))

-- the counts are those of these rows by the keys of these names
pub record AreCountsBy (schema : List Attribute) (rows : List (List Datum)) (keys : List (List ℕ)) (counts : CountsState) : Type 0 where
  pub keyed : may_key schema keys ≡ true
  pub op : counts.op ≡ by_keys schema keys
  pub now : AreCounts schema rows counts

-- and they wait for an event
pub record AreWaiting (schema : List Attribute) (rows : List (List Datum)) (keys : List (List ℕ)) (counts : CountsState) : Type 0 where
  pub by : AreCountsBy schema rows keys counts
  pub noted : counts.noted ≡ None

-- whether the law keeps a row, by its values for these names
abbrev pub is_kept_by : List Attribute → Law → List (List ℕ) → List Datum → Bool
is_kept_by schema law props = passes (gives law) (map (column_of schema) props)

-- the properties are there, and the positions are those of the rows that the law keeps by them
pub record IsFilterBy (schema : List Attribute) (rows : List (List Datum)) (law : Law) (props : List (List ℕ)) (filter : FilterState) : Type 0 where
  pub present : absent schema props ≡ None
  pub now : IsFiltered (is_kept_by schema law props) rows filter.kept

-- what is kept is that of these rows, and waits for what happens to them
abbrev pub IsWaiting : List Attribute → List (List Datum) → Kept → Type 0
IsWaiting schema rows (Counts keys counts) = AreWaiting schema rows keys counts
IsWaiting schema rows (Filter law props filter) = IsFilterBy schema rows law props filter

-- it is that of a view: the view is there, and it is that of its rows
pub record IsOfView (views : List NamedTable) (view : List ℕ) (kept : Kept) : Type 0 where
  pub table : StoredTable
  pub there : table_of views view ≡ Some table
  pub over : IsWaiting table.schema table.rows kept

-- What is kept is right: of each view nothing, or what its rows now are due.
abbrev pub IsCounted : List NamedTable → Counted → Type 0
IsCounted views e = ForSome e.kept (IsOfView views e.view)

abbrev pub AreCounted : List NamedTable → List Counted → Type 0
AreCounted views all = All (IsCounted views) all

-- what is kept of the view of this name is right, where the view has this schema and these rows
abbrev pub IsCountedOver : List Attribute → List (List Datum) → Counted → Type 0
IsCountedOver schema rows e = ForSome e.kept (IsWaiting schema rows)

abbrev pub AreCountedOver : List ℕ → List Attribute → List (List Datum) → List Counted → Type 0
AreCountedOver view schema rows all = All (λ (e : Counted). same_bytes e.view view ≡ true → IsCountedOver schema rows e) all

-- what is kept is right, but that what is kept of one view may not be
abbrev pub AreCountedBut : List ℕ → List NamedTable → List Counted → Type 0
AreCountedBut noting views all = All (λ (e : Counted). same_bytes e.view noting ≡ false → IsCounted views e) all

-- an edit of one row as an event; an edit of several rows is none
abbrev pub single : RowEdit → Option Event
single (Insert at count) = if count == 1 then Some (event.Insert at) else None
single (Remove at count) = if count == 1 then Some (event.Remove at) else None
single (Change at) = Some (event.Change at)

-- counts of these rows have noted an edit of one of them
pub record HaveNoted (schema : List Attribute) (rows : List (List Datum)) (edit : RowEdit) (keys : List (List ℕ)) (counts : CountsState) : Type 0 where
  pub by : AreCountsBy schema rows keys counts
  pub event : Event
  pub one : single edit ≡ Some event
  pub noted : counts.noted ≡ Some event
  pub range : IsInRange edit (length rows)

-- a filter of these rows is ready for an edit of one of them: it has room for one position more
pub record IsReady (schema : List Attribute) (rows : List (List Datum)) (edit : RowEdit) (law : Law) (props : List (List ℕ)) (filter : FilterState) : Type 0 where
  pub by : IsFilterBy schema rows law props filter
  pub event : Event
  pub one : single edit ≡ Some event
  pub room : 0 < filter.room
  pub range : IsInRange edit (length rows)

-- what is kept of these rows has noted an edit of one of them
abbrev pub HasNoted : List Attribute → List (List Datum) → RowEdit → Kept → Type 0
HasNoted schema rows edit (Counts keys counts) = HaveNoted schema rows edit keys counts
HasNoted schema rows edit (Filter law props filter) = IsReady schema rows edit law props filter

-- what is kept of a view that has this schema and these rows has noted an edit of them
abbrev pub AllHaveNoted : List ℕ → List Attribute → List (List Datum) → RowEdit → List Counted → Type 0
AllHaveNoted view schema rows edit all = All (λ (e : Counted). same_bytes e.view view ≡ true → ForSome e.kept (HasNoted schema rows edit)) all

-- nothing is kept of a view
abbrev pub NoneIsKept : List ℕ → List Counted → Type 0
NoneIsKept view all = All (λ (e : Counted). same_bytes e.view view ≡ true → e.kept ≡ None) all

-- two laws are the same
abbrev pub same_law : Law → Law → Bool
same_law Length Length = true
same_law Twice Twice = true
same_law Sum Sum = true
same_law _ _ = false

-- counts by the same keys, or what the same law keeps by the same properties
abbrev pub same_what : What → What → Bool
same_what (counted_by keys) (counted_by others) = pointwise same_bytes keys others
same_what (kept_by law props) (kept_by other others) = same_law law other && pointwise same_bytes props others
same_what _ _ = false

-- what is kept, if anything is; and whether that is this
abbrev pub what_kept : Counted → Option What
what_kept e = option_map what_of e.kept

abbrev pub is_what : What → Option What → Bool
is_what what None = false
is_what what (Some other) = same_what other what

-- this is kept of a view
abbrev pub is_of : List ℕ → What → Counted → Bool
is_of view what e = same_bytes e.view view && is_what what (what_kept e)

abbrev pub is_kept : List Counted → List ℕ → What → Bool
is_kept all view what = list_any (is_of view what) all

-- the most that is kept; and whether more may be
abbrev pub max_kept : ℕ
max_kept = 64

abbrev pub has_place : List Counted → Bool
has_place all = list_any (λ (e : Counted). is_none e.kept) all || nat_lt (length all) max_kept

-- a table has the counts of a view by these keys, under this name, and no refusal of them is due; they are those of its rows in any order
pub record IsCountsOf (views : List NamedTable) (view : List ℕ) (keys : List (List ℕ)) (count : List ℕ) (d : Layered) : Type 0 where
  pub table : StoredTable
  pub there : table_of views view ≡ Some table
  pub due : counts_due keys count (table_stored table) ≡ None
  pub is : (rows : List (List Datum)) → IsPermutation table.rows rows → table_derived d ≡ counts keys count (record { schema = table.schema; rows = rows })

-- a table has the rows of a view that a viewer keeps by these properties, and no refusal of them is due
pub record IsFilterOf (views : List NamedTable) (view : List ℕ) (viewer : Meaning) (props : List (List ℕ)) (d : Layered) : Type 0 where
  pub table : StoredTable
  pub there : table_of views view ≡ Some table
  pub due : keep_due viewer.name viewer.takes props table.schema ≡ None
  pub is : table_derived d ≡ keep viewer.gives props (table_stored table)
