-- Room for an edit, part of which is set aside when it is noted.
use Rattle.std.proofs.Common.{ℕ, ◌+◌, ◌≤◌, arith}
use Rattle.live.specs.Answers.{room_followed, room_noted}
use Rattle.live.specs.Edits.{room_of}
use Rattle.row_edits.specs.declared.edit.RowEdit.{RowEdit}
use Rattle.row_edits.specs.declared.edit.RowEdit.TheVariants.{Insert, Remove, Change}

pub noted_room : (e : RowEdit) (n : ℕ) → room_of e ≤ n → room_noted e ≤ n
noted_room (Insert at count) n h = omega arith
noted_room (Remove at count) n h = omega arith
noted_room (Change at) n h = h

pub left_room : (e : RowEdit) (n m : ℕ) → room_of e ≤ n → n ≤ m + room_noted e → room_followed e ≤ m
left_room (Insert at count) n m h k = omega arith
left_room (Remove at count) n m h k = omega arith
left_room (Change at) n m h k = omega arith
