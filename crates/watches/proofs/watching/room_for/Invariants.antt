use Rattle.std.proofs.Common.{◌≡◌, take}
use Rattle.watches.specs.Lines.{room_for}
use Rattle.watches.proofs.watching.room_for.Given as goal

abbrev pub invariant-loop-edit : goal.invariant-loop-edit
invariant-loop-edit l = l.room ≡ room_for (take l.edit-index l.edits)
