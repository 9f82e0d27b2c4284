-- Edits of rows as events of single rows.
use Rattle.std.specs.Prelude.{ℕ, ◌+◌, ◌==◌, if◌then◌else◌, List, [], ◌∷◌, ◌++◌, map, insert, remove, slice_set}
use Rattle.std.specs.List.{sum_by}
use Rattle.mk_value.specs.Data.{Datum}
use Rattle.relations.specs.Positions.{numbers}
use Rattle.row_edits.specs.declared.event.Event.{Event}
use Rattle.row_edits.specs.declared.event.Event.TheVariants as event
use Rattle.row_edits.specs.declared.edit.RowEdit.{RowEdit}
use Rattle.row_edits.specs.declared.edit.RowEdit.TheVariants.{Insert, Remove, Change}

-- rows after an event, where the row that comes with it is this one
abbrev pub happened : List Datum → Event → List (List Datum) → List (List Datum)
happened row (event.Insert at) rows = insert rows at row
happened row (event.Remove at) rows = remove rows at
happened row (event.Change at) rows = slice_set rows at row

-- rows after events, the first one first
abbrev pub rows_after : List Datum → List Event → List (List Datum) → List (List Datum)
rows_after row [] rows = rows
rows_after row (e ∷ events) rows = rows_after row events (happened row e rows)

-- how many events an edit is: one for each row that is put in, taken out or changed
abbrev pub count_of : RowEdit → ℕ
count_of (Insert at count) = count
count_of (Remove at count) = count
count_of (Change at) = 1

-- the event of a number: rows come one behind the other, and go from one place
abbrev pub event_of : RowEdit → ℕ → Event
event_of (Insert at count) k = event.Insert (at + k)
event_of (Remove at count) k = event.Remove at
event_of (Change at) k = event.Change at

-- the events of an edit, and of edits one after another
abbrev pub events_of : RowEdit → List Event
events_of e = map (event_of e) (numbers (count_of e))

abbrev pub events_by : List RowEdit → List Event
events_by [] = []
events_by (e ∷ edits) = events_of e ++ events_by edits

-- the number of events of edits
abbrev pub count_all : List RowEdit → ℕ
count_all edits = sum_by count_of edits

-- as much of an edit as its first events are
abbrev pub begun : ℕ → RowEdit → RowEdit
begun k (Insert at count) = Insert at k
begun k (Remove at count) = Remove at k
begun k (Change at) = if k == 0 then Remove at 0 else Change at
