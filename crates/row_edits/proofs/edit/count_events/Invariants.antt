use Rattle.std.proofs.Common.{◌≡◌, take}
use Rattle.row_edits.specs.Events.{count_all}
use Rattle.row_edits.proofs.edit.count_events.Given as goal

abbrev pub invariant-loop-edit : goal.invariant-loop-edit
invariant-loop-edit l = l.count ≡ count_all (take l.edit-index l.edits)
