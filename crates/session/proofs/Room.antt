-- The room that watches take for a line fits a word.
use Rattle.std.proofs.Common.{ℕ, ◌+◌, ◌/◌, ◌<◌, ◌^◌, ◌∷◌, [], Some, None, arith}
use Rattle.std.proofs.Math.Nat.{min-le_left}
use Rattle.watches.specs.Lines.{room_for}
use Rattle.keyed_views.specs.Keyed.{edits_of}
use Rattle.keyed_views.specs.declared.keyed.KeyedEdit.{KeyedEdit}
use Rattle.keyed_views.specs.declared.keyed.KeyedEdit.TheVariants as keyed
use Rattle.row_edits.specs.Edits.{IsInRange}
use Rattle.row_edits.specs.declared.edit.RowEdit.{RowEdit}
use Rattle.row_edits.specs.declared.edit.RowEdit.TheVariants.{Insert, Remove, Change}

pub room_few : (e : RowEdit) (size : ℕ) → IsInRange e size → room_for (e ∷ []) < 2 ^ 64
room_few (Insert at count) size h =
    let few = h.1 in
    let least = min-le_left count ((count + 2047) / 2048 + 1) in
    omega arith
room_few (Remove at count) size h = omega arith
room_few (Change at) size h = omega arith

pub keyed_room : (e : KeyedEdit) → room_for (edits_of e) < 2 ^ 64
keyed_room (keyed.Put at) = omega arith
keyed_room (keyed.Replace at) = omega arith
keyed_room (keyed.Change at None) = omega arith
keyed_room (keyed.Change at (Some other)) = omega arith
keyed_room (keyed.Move at None to) = omega arith
keyed_room (keyed.Move at (Some other) to) = omega arith
keyed_room (keyed.Remove at count) = omega arith
