-- Watches over a line: each has followed its events, and is else what it was; and the refusals of a watch that is put.
use Rattle.std.specs.Prelude.{◌≡◌, ◌≤◌, ℕ, Bool, true, false, List, length, sum_by, Option, Some}
use Rattle.std.specs.Option.{option_map, unwrap_or}
use Rattle.mk_value.specs.Data.{Datum}
use Rattle.mk_value.specs.Heading.{Attribute}
use Rattle.row_edits.specs.Edits.{IsInRange}
use Rattle.row_edits.specs.declared.edit.RowEdit.{RowEdit}
use Rattle.live.specs.Chains.{AreNow}
pub use Rattle.live.specs.Edits.{HasFollowed, HaveFollowed, raised_by}
use Rattle.live.specs.Answers.{noted_for, room_followed}
use Rattle.live.specs.Edits.{room_of}
use Rattle.live.specs.States.{Watching}
use Rattle.live.specs.Putting.{as_watch_error, put_due, spare}
use Rattle.live.specs.Watching.{op_due}
use Rattle.live.specs.declared.error.WatchError.{WatchError}
use Rattle.live.specs.declared.error.WatchError.TheVariants.{TooDeep}
use Rattle.live.specs.declared.op.WatchOp.{WatchOp}

-- the refusal of a watch that would be one too many: that of its criteria or keys, and else the same as of one that stands too deep
abbrev pub refusal_of : List Attribute → WatchOp → WatchError
refusal_of schema op = unwrap_or (option_map as_watch_error (op_due schema op)) TooDeep

-- the refusal of a watch over a source of this depth, where no more may be put or one more
abbrev pub watch_due : List Attribute → WatchOp → ℕ → Bool → Option WatchError
watch_due schema op depth true = Some (refusal_of schema op)
watch_due schema op depth false = put_due schema op depth

-- Watches stand over these rows, and have noted an edit that may be made of them: they can follow it without memory.
pub record AreReady (schema : List Attribute) (rows : List (List Datum)) (edit : RowEdit) (watching : Watching) : Type 0 where
  pub now : AreNow schema rows watching.watches
  pub range : IsInRange edit (length rows)
  pub noted : watching.noted ≡ noted_for edit
  pub room : room_followed edit ≤ spare watching

-- how many chunks a watch takes for edits at most
abbrev pub room_for : List RowEdit → ℕ
room_for edits = sum_by room_of edits
