use Rattle.std.proofs.Common.{◌≡◌, ℕ, List, [], length, get_or, take, ◌<◌, ◌≤◌}
use Rattle.mk_value.specs.Data.{Datum}
use Rattle.row_edits.specs.Edits.{edited_by, size_by}
use Rattle.row_edits.specs.Origins.{StandAfter}
use Rattle.row_edits.proofs.origin.origin.Given as goal

abbrev pub invariant-loop-left : goal.invariant-loop-left
invariant-loop-left l = record {
  within : l.left ≤ length l.edits;
  stands : (size : ℕ) → StandAfter l.edits l.fn.row size → l.at < size_by (take l.left l.edits) size;
  same : (came : List Datum) (rows : List (List Datum)) → StandAfter l.edits l.fn.row (length rows) → get_or (edited_by came (take l.left l.edits) rows) l.at [] ≡ get_or (edited_by came l.edits rows) l.fn.row [];
}

abbrev pub decreases-loop-left : goal.decreases-loop-left
decreases-loop-left l = l.left
