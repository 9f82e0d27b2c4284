use Rattle.std.proofs.Common.{◌<◌, All}
use Rattle.free_space.specs.Cursors.{IsAtFloor}
use Rattle.free_space.proofs.cursor.cursors_at.Given as goal

abbrev pub invariant-loop-step : goal.invariant-loop-step
invariant-loop-step l = record { some : 0 < l.len; at_floor : All (IsAtFloor l.floor) l.cursors.items }
