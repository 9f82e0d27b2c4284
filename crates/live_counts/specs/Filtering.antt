-- Filters: the rows of a table that pass a test, which is asked of nothing but the row that comes.
use Rattle.std.specs.Prelude.{◌≡◌, ◌<◌, ◌≤◌, ℕ, Bool, true, false, List, [], length, insert, slice_index, slice_index_or, Option, Some, None}
use Rattle.mk_value.specs.Data.{Datum}
use Rattle.mk_value.specs.Limits.{max_rows}
use Rattle.relations.specs.Positions.{passing}
use Rattle.live.specs.Watching.{IsTurn, comes_to, own}
use Rattle.row_edits.specs.declared.event.Event.{Event}
use Rattle.row_edits.specs.declared.event.Event.TheVariants.{Insert, Remove, Change}
use Rattle.live.specs.declared.op.WatchOp.TheVariants.{Range}
use Rattle.live.specs.declared.turn.Turn.{Turn}
use Rattle.live.specs.declared.turn.Turn.TheVariants.{Still, Comes, Goes, Changes, Moves}

-- the positions of the rows that pass the test are kept, in order
pub record IsFiltered (test : List Datum → Bool) (rows : List (List Datum)) (kept : List ℕ) : Type 0 where
  pub small : length rows ≤ max_rows
  pub positions : kept ≡ passing test [] rows

-- whether the row that comes passes, of whatever value where none comes
abbrev pub FitsBy : (List Datum → Bool) → Option ℕ → Bool → List (List Datum) → Type 0
FitsBy test None fits rows = Unit {0}
FitsBy test (Some p) fits rows = fits ≡ test (slice_index_or rows p [])

-- the positions that are kept are those of rows of which a turn made these rows
pub record IsFilterDue (test : List Datum → Bool) (kept : List ℕ) (turn : Turn) (fits : Bool) (rows : List (List Datum)) : Type 0 where
  pub before : List (List Datum)
  pub now : IsFiltered test before kept
  pub made : IsTurn turn before rows
  pub few : length rows ≤ max_rows
  pub answered : FitsBy test (comes_to turn) fits rows

-- a filter answers a turn of its source as a selection does
abbrev pub own_turn : List ℕ → List ℕ → Turn → Turn
own_turn old new turn = own (Range []) old new turn

-- the event that a turn is, if it is one
abbrev pub event_of : Turn → Option Event
event_of Still = None
event_of (Comes q) = Some (Insert q)
event_of (Goes p) = Some (Remove p)
event_of (Changes p) = Some (Change p)
event_of (Moves p q) = None

-- a number stands in at a place, behind the numbers below it and before the others
pub record IsPutIn (old : List ℕ) (number at : ℕ) (new : List ℕ) : Type 0 where
  pub within : at ≤ length old
  pub below : (k : ℕ) → k < at → slice_index old k < number
  pub above : (k : ℕ) → at ≤ k → k < length old → number ≤ slice_index old k
  pub items : new ≡ insert old at number

-- a number that comes is put in where it fits
abbrev pub IsEntered : List ℕ → Option ℕ → Bool → List ℕ → Option ℕ → Type 0
IsEntered old None fits new place = (place ≡ None) × (new ≡ old)
IsEntered old (Some p) false new place = (place ≡ None) × (new ≡ old)
IsEntered old (Some p) true new place = (at : ℕ) × (place ≡ Some at) × IsPutIn old p at new
