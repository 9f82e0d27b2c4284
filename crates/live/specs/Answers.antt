-- What a watch answers to an edit of the root that is followed in one step: what its own rows did.
use Rattle.std.specs.Prelude.{Bool, List, None, Option, Some, drop, false, length, slice_index_or, suc, sum_by, take, true, zero, ℕ, ◌++◌, ◌+◌, ◌<◌, ◌≡◌, ◌≤◌}
use Rattle.mk_value.specs.Data.{Datum}
use Rattle.mk_value.specs.Heading.{Attribute}
use Rattle.places.specs.Numbers.{chunks_for}
use Rattle.row_edits.specs.Edits.{IsInRange, brings, edited}
use Rattle.row_edits.specs.declared.edit.RowEdit.{RowEdit}
use Rattle.row_edits.specs.declared.edit.RowEdit.TheVariants as edit
use Rattle.row_edits.specs.declared.event.Event.{Event}
use Rattle.row_edits.specs.declared.event.Event.TheVariants as event
use Rattle.live.specs.Chains.{AreNow, seen, turn_of}
use Rattle.live.specs.Costs.{after_cost, before_cost}
use Rattle.live.specs.Edits.{IsSpread, came_to}
use Rattle.live.specs.Leaving.{goes_at, places_among, rows_left, went}
use Rattle.live.specs.States.{WatchState}
use Rattle.live.specs.Turns.{answer_of}
use Rattle.live.specs.Watching.{IsTurn, own, placed, told}
use Rattle.live.specs.declared.answer.Answer.{Answer}
use Rattle.live.specs.declared.answer.Answer.TheVariants.{Nothing, Insert, Remove, RemoveAmong, Change, Move}
use Rattle.live.specs.declared.turn.Turn.{Turn}
use Rattle.live.specs.declared.turn.Turn.TheVariants.{Changes, Moves}

-- the turn of a watch for a row of which copies came in its source, if they did: it is where the first of them stands
abbrev pub turn_to : RowEdit → List WatchState → WatchState → WatchState → Turn
turn_to (edit.Insert at count) new v w = told false None (placed w.kept (came_to at new v.source))
turn_to (edit.Remove at count) new v w = v.turn
turn_to (edit.Change at) new v w = own v.op v.kept w.kept (turn_of (Changes at) new v.source)

-- What a watch v that is w then answers to an edit of the root: where the first of the copies that came stands in it, which of its rows went, or
-- the turn of the row that changed. An edit of no rows has no answer.
abbrev pub answer_to : RowEdit → List WatchState → List WatchState → WatchState → WatchState → Answer
answer_to (edit.Insert at zero) old new v w = Nothing
answer_to (edit.Insert at (suc more)) old new v w = answer_of (suc more) (turn_to (edit.Insert at (suc more)) new v w)
answer_to (edit.Remove at zero) old new v w = Nothing
answer_to (edit.Remove at (suc more)) old new v w = went at (suc more) (places_among at (suc more) old v)
answer_to (edit.Change at) old new v w = answer_of 1 (turn_to (edit.Change at) new v w)

-- each watch has answered the edit; and where a row came or changed, its turn is where that stands in it
pub record HaveAnswered (e : RowEdit) (old new : List WatchState) : Type 0 where
  pub long : length new ≡ length old
  pub turn : (k : ℕ) (d : WatchState) → brings e ≡ true → k < length old → (slice_index_or new k d).turn ≡ turn_to e new (slice_index_or old k d) (slice_index_or new k d)
  pub answer : (k : ℕ) (d : WatchState) → k < length old → (slice_index_or new k d).answer ≡ answer_to e old new (slice_index_or old k d) (slice_index_or new k d)

-- the event that is noted before an edit: a row that changes, and of rows that come or go nothing
abbrev pub noted_for : RowEdit → Option Event
noted_for (edit.Insert at count) = None
noted_for (edit.Remove at count) = None
noted_for (edit.Change at) = Some (event.Change at)

-- how many chunks a watch sets aside for an edit when it is noted, and takes of what is left when it is followed
abbrev pub room_noted : RowEdit → ℕ
room_noted (edit.Insert at count) = 0
room_noted (edit.Remove at count) = 0
room_noted (edit.Change at) = 1

abbrev pub room_followed : RowEdit → ℕ
room_followed (edit.Insert at count) = chunks_for count
room_followed (edit.Remove at count) = 0
room_followed (edit.Change at) = 0

-- the watches stand over rows of which the edit made these rows
pub record AreEditDue (schema : List Attribute) (watches : List WatchState) (e : RowEdit) (rows : List (List Datum)) : Type 0 where
  pub row : List Datum
  pub before : List (List Datum)
  pub now : AreNow schema before watches
  pub range : IsInRange e (length before)
  pub made : rows ≡ edited row e before

-- what watches may count for an edit when it is noted, by the rows before it, and when it is followed, by the rows after it
abbrev pub note_cost : RowEdit → List (List Datum) → List WatchState → ℕ
note_cost (edit.Insert at count) rows watches = 0
note_cost (edit.Remove at count) rows watches = 0
note_cost (edit.Change at) rows watches = sum_by (before_cost rows watches) watches

abbrev pub follow_cost : RowEdit → List (List Datum) → List WatchState → ℕ
follow_cost (edit.Insert at zero) rows watches = 0
follow_cost (edit.Insert at (suc more)) rows watches = sum_by (after_cost rows watches) watches
follow_cost (edit.Remove at count) rows watches = 0
follow_cost (edit.Change at) rows watches = sum_by (after_cost rows watches) watches

-- the rows of a source that go with an edit of the root, by their places in it
abbrev pub gone_by : RowEdit → List WatchState → Option ℕ → ℕ → Bool
gone_by (edit.Insert at count) watches over i = false
gone_by (edit.Remove at count) watches over i = goes_at at count watches over i
gone_by (edit.Change at) watches over i = false

-- What an answer says of the rows of a watch, from old rows to new ones: copies of a row came, rows went side by side, those went that stood at some
-- places, or a row went and one came.
abbrev pub HasDone : Answer → (ℕ → Bool) → List (List Datum) → List (List Datum) → Type 0
HasDone Nothing gone old new = new ≡ old
HasDone (Insert p n) gone old new = (row : List Datum) × (0 < n) × IsSpread (Some p) n row old new
HasDone (Remove p n) gone old new = (0 < n) × (p + n ≤ length old) × (new ≡ take p old ++ drop (p + n) old)
HasDone (RemoveAmong at n) gone old new = new ≡ rows_left gone old
HasDone (Change p) gone old new = IsTurn (Changes p) old new
HasDone (Move p q) gone old new = IsTurn (Moves p q) old new

-- each watch's answer is what its rows did
abbrev pub HaveDone : RowEdit → List (List Datum) → List (List Datum) → List WatchState → List WatchState → Type 0
HaveDone e before after old new =
    (k : ℕ) (d : WatchState) → k < length old
    → HasDone (slice_index_or new k d).answer (gone_by e old (Some k)) (seen before old (Some k)) (seen after new (Some k))
