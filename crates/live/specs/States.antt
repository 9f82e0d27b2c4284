-- What contracts see of watches.
use Rattle.std.specs.Prelude.{ℕ, List, Option}
use Rattle.row_edits.specs.declared.event.Event.{Event}
use Rattle.live.specs.declared.answer.Answer.{Answer}
use Rattle.live.specs.declared.turn.Turn.{Turn}
use Rattle.live.specs.declared.op.WatchOp.{WatchOp}

-- a watch: its number; the place of its source among the watches, or none where that is the root; what it shows; the positions that
-- it keeps, in the rows of its source; how many chunks of positions lie aside for it; where the row stood in it that was to go by the
-- event that was noted last; its turn, which is what `after` last did to it, or `follow_edit` where rows came or one changed, while rows that
-- `follow_edit` takes out leave it as it was; what it answered to the last event or edit; and how many events it has followed
pub record WatchState : Type 0 where
  pub number : ℕ
  pub source : Option ℕ
  pub op : WatchOp
  pub kept : List ℕ
  pub room : ℕ
  pub going : Option ℕ
  pub turn : Turn
  pub answer : Answer
  pub followed : ℕ

-- all watches of a root, in the order in which they were put, and the event that they have noted and not yet followed
pub record Watching : Type 0 where
  pub watches : List WatchState
  pub noted : Option Event
