-- What the watches of a root keep at every moment.
use Rattle.std.specs.Prelude.{List, Option}
use Rattle.std.specs.Option.{ForSome}
use Rattle.live.specs.Chains.{AreInside, AreNoted, HaveRoom}
use Rattle.live.specs.States.{WatchState}
use Rattle.live.specs.Watching.{goes_from, root_turn}
use Rattle.row_edits.specs.declared.event.Event.{Event}

-- positions are within their sources; and where an event is noted, each watch has noted where the row that goes stands in it, and has
-- room for the one that comes
pub record AreKept (watches : List WatchState) (noted : Option Event) : Type 0 where
  pub inside : AreInside watches
  pub ready : ForSome noted (λ e. AreNoted (goes_from (root_turn e)) watches × HaveRoom watches)
