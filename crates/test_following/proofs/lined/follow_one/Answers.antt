use Rattle.std.proofs.Common.{◌+◌, ◌/◌, ◌≤◌, ap, arith, ◌∙◌}
use Rattle.std.proofs.Math.Nat.{min-le_left}
use Rattle.std.proofs.lemmas.List.Sums.{sum_by-le-sum_by}
use Rattle.live.specs.Edits.{room_of}
use Rattle.row_edits.specs.Events.{count_all, count_of}
use Rattle.row_edits.specs.declared.edit.RowEdit.{RowEdit}
use Rattle.row_edits.specs.declared.edit.RowEdit.TheVariants.{Insert, Remove, Change}
use Rattle.test_following.proofs.lined.follow_one.Goals as goal

pub follow_line-requires-clause-now : goal.follow_line-requires-clause-now
follow_line-requires-clause-now c = c.reserve.ensures.now c.args.lined.table.schema c.args.lined.table.rows c.args.lined.now

-- the room that edits want is at most as much as they have events
room_at_most : (e : RowEdit) → room_of e ≤ count_of e
room_at_most (Insert at count) = min-le_left count ((count + 2047) / 2048 + 1)
room_at_most (Remove at count) = omega arith
room_at_most (Change at) = omega arith

pub follow_line-requires-clause-reserved : goal.follow_line-requires-clause-reserved
follow_line-requires-clause-reserved c =
    let edits = c.as_slice.result.now in
    let most = sum_by-le-sum_by room_of count_of edits room_at_most in
    let room = c.in_ok-reserve.ensures.spare in
    let few = c.requires in
    let same = ap count_all (c.as_slice.ensures ∙ c.in_ok-edits.ensures) in
    omega arith
