-- Watches by name, and what each shows.
use Rattle.std.specs.Prelude.{ℕ, Bool, false, if◌then◌else◌, List, [], ◌∷◌, ◌++◌, find, length, map, remove, slice_index_or, Option, Some, None}
use Rattle.std.specs.List.{list_any, position_or_len, sum_by}
use Rattle.std.specs.Option.{option_map}
use Rattle.watches.specs.Lines.{raised_by}
use Rattle.live.specs.Chains.{source_rows}
use Rattle.live.specs.Laws.{shown}
use Rattle.live.specs.Placing.{closed}
use Rattle.live.specs.declared.op.WatchOp.{WatchOp}
use Rattle.mk_value.specs.Data.{Datum}
use Rattle.mk_value.specs.Heading.{Attribute}
use Rattle.mk_value.specs.Names.{same_bytes}
use Rattle.mk_value.specs.Tables.{Table}
use Rattle.tables.specs.Tables.{StoredTable}
use Rattle.view_store.specs.Views.{NamedTable, table_of}

-- a watch of a view: its name; the place of its source among the watches of the view, or none where that is the view itself; what it
-- shows of it; and how many events it has followed
pub record Shown : Type 0 where
  pub name : List ℕ
  pub source : Option ℕ
  pub op : WatchOp
  pub followed : ℕ

-- the watches of a view, in the order in which they were put: each stands over the view or over one before it
pub record Followed : Type 0 where
  pub view : List ℕ
  pub watches : List Shown

-- the rows that each watch shows, where those before it show these
abbrev pub rows_shown : List Attribute → List (List Datum) → List (List (List Datum)) → List Shown → List (List (List Datum))
rows_shown schema rows done [] = []
rows_shown schema rows done (s ∷ watches) =
    let these = shown schema s.op (source_rows rows done s.source) in these ∷ rows_shown schema rows (done ++ these ∷ []) watches

-- the rows of a source of a view's watches
abbrev pub rows_under : StoredTable → List Shown → Option ℕ → List (List Datum)
rows_under t watches over = source_rows t.rows (rows_shown t.schema t.rows [] watches) over

-- whether one of these watches has the name, and the place of the first
abbrev pub is_among : List Shown → List ℕ → Bool
is_among watches name = list_any (λ (s : Shown). same_bytes s.name name) watches

abbrev pub place_of : List Shown → List ℕ → ℕ
place_of watches name = position_or_len (λ (s : Shown). same_bytes s.name name) watches

-- whether a watch has the name; the watches of the view of that watch; and how many watches there are
abbrev pub is_watch : List Followed → List ℕ → Bool
is_watch all name = list_any (λ (f : Followed). is_among f.watches name) all

abbrev pub found : List Followed → List ℕ → Option Followed
found all name = find (λ (f : Followed). is_among f.watches name) all

abbrev pub count : List Followed → ℕ
count all = sum_by (λ (f : Followed). length f.watches) all

-- whether a watch stands over the view of a name; and whether one stands over the watch of a name
abbrev pub is_watched : List Followed → List ℕ → Bool
is_watched all view = list_any (λ (f : Followed). same_bytes f.view view) all

abbrev pub stands_over : List Shown → List ℕ → Option ℕ → Bool
stands_over watches name None = false
stands_over watches name (Some k) = same_bytes (slice_index_or (map (λ (s : Shown). s.name) watches) k []) name

abbrev pub has_over : List Followed → List ℕ → Bool
has_over all name = list_any (λ (f : Followed). list_any (λ (s : Shown). stands_over f.watches name s.source) f.watches) all

-- a thing that a watch may stand over: a view, or one of its watches
pub record Source : Type 0 where
  pub view : List ℕ
  pub over : Option ℕ

abbrev pub source_in : Option Followed → List ℕ → Source
source_in None name = record { view = name; over = None }
source_in (Some f) name = record { view = f.view; over = Some (place_of f.watches name) }

-- what a name stands for: the watch that has it, or else the view
abbrev pub source_of : List Followed → List ℕ → Source
source_of all name = source_in (found all name) name

-- the watches of a view
abbrev pub watches_in : Option Followed → List Shown
watches_in None = []
watches_in (Some f) = f.watches

abbrev pub watches_of : List Followed → List ℕ → List Shown
watches_of all view = watches_in (find (λ (f : Followed). same_bytes f.view view) all)

-- a watch more of a view, behind its others
abbrev pub with_watch : List Followed → List ℕ → Shown → List Followed
with_watch [] view s = record { view = view; watches = s ∷ [] } ∷ []
with_watch (f ∷ all) view s =
    if same_bytes f.view view then record f { watches = f.watches ++ s ∷ [] } ∷ all else f ∷ with_watch all view s

-- the watches without the one at a place: a source behind that stands one place further in front
abbrev pub moved_in : ℕ → Shown → Shown
moved_in k s = record s { source = option_map (closed k) s.source }

abbrev pub without_place : ℕ → List Shown → List Shown
without_place k watches = map (moved_in k) (remove watches k)

-- the watches of a view before others; a view without watches is not listed
abbrev pub listed : List ℕ → List Shown → List Followed → List Followed
listed view [] all = all
listed view (s ∷ watches) all = record { view = view; watches = s ∷ watches } ∷ all

-- without the watch of a name
abbrev pub without_watch : List Followed → List ℕ → List Followed
without_watch [] name = []
without_watch (f ∷ all) name =
    if is_among f.watches name then listed f.view (without_place (place_of f.watches name) f.watches) all
    else f ∷ without_watch all name

-- the watches of a view have followed so many events more
abbrev pub raised : ℕ → Followed → Followed
raised n f = record f { watches = map (λ (s : Shown). record s { followed = raised_by n s.followed }) f.watches }

abbrev pub followed_by : List Followed → List ℕ → ℕ → List Followed
followed_by all view n = map (λ (f : Followed). if same_bytes f.view view then raised n f else f) all

-- the table of a watch: the schema is that of its view
abbrev pub shown_at : List Shown → ℕ → StoredTable → Table
shown_at watches k t = record { schema = t.schema; rows = slice_index_or (rows_shown t.schema t.rows [] watches) k [] }

abbrev pub shown_in : List NamedTable → Option Followed → List ℕ → Option Table
shown_in views None name = None
shown_in views (Some f) name = option_map (shown_at f.watches (place_of f.watches name)) (table_of views f.view)

abbrev pub watch_table : List NamedTable → List Followed → List ℕ → Option Table
watch_table views all name = shown_in views (found all name) name

-- what a watch shows of its source
abbrev pub op_in : Option Shown → Option WatchOp
op_in watch = option_map (λ (s : Shown). s.op) watch

abbrev pub op_found : Option Followed → List ℕ → Option WatchOp
op_found None name = None
op_found (Some f) name = op_in (find (λ (s : Shown). same_bytes s.name name) f.watches)

abbrev pub op_of : List Followed → List ℕ → Option WatchOp
op_of all name = op_found (found all name) name
