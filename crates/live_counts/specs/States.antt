-- What contracts see of counts.
use Rattle.std.specs.Prelude.{ℕ, List, Option}
use Rattle.row_edits.specs.declared.event.Event.{Event}
use Rattle.live.specs.declared.op.WatchOp.{WatchOp}

-- the sorting by the keys; the positions of all rows in its order; the places in it where runs of equal keys begin; how many events can
-- be followed without memory, none set aside; where the row that is to go stands in it; and the event that was noted and not yet followed
pub record CountsState : Type 0 where
  pub op : WatchOp
  pub kept : List ℕ
  pub starts : List ℕ
  pub room : ℕ
  pub going : Option ℕ
  pub noted : Option Event

-- the columns of the values that the viewer is asked of; the positions of the rows that are kept; and how many more of them are taken without memory
pub record FilterState : Type 0 where
  pub columns : List ℕ
  pub kept : List ℕ
  pub room : ℕ
