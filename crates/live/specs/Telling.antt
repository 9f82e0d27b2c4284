-- What the watches tell of an event: their own events, and in which order.
use Rattle.std.specs.Prelude.{ℕ, List, [], ◌∷◌, ◌++◌, map}
use Rattle.live.specs.States.{WatchState}
use Rattle.row_edits.specs.declared.event.Event.{Event}
use Rattle.row_edits.specs.declared.event.Event.TheVariants.{Insert, Remove, Change}
use Rattle.live.specs.declared.out.Told.{Told}
use Rattle.live.specs.declared.turn.Turn.{Turn}
use Rattle.live.specs.declared.turn.Turn.TheVariants.{Still, Comes, Goes, Changes, Moves}

-- the events of a turn: none, one, or a removal and then an insertion
abbrev pub events_of : Turn → List Event
events_of Still = []
events_of (Comes q) = Insert q ∷ []
events_of (Goes p) = Remove p ∷ []
events_of (Changes p) = Change p ∷ []
events_of (Moves p q) = Remove p ∷ Insert q ∷ []

-- an event of the watch of a number
abbrev pub told_as : ℕ → Event → Told
told_as number e = record { watch = number; event = e }

-- the own events of all watches, in the order in which they were put
abbrev pub told_by : List WatchState → List Told
told_by [] = []
told_by (w ∷ watches) = map (told_as w.number) (events_of w.turn) ++ told_by watches
