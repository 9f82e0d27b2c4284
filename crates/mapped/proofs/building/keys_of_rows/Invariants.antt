use Rattle.std.proofs.Common.{◌≡◌, take}
use Rattle.mapped.specs.Keys.{keys_of}
use Rattle.mapped.proofs.building.keys_of_rows.Given as goal

abbrev pub invariant-loop-row : goal.invariant-loop-row
invariant-loop-row g l = l.all.items ≡ keys_of l.keys (take l.row (g.T.TableRead.rows l.rows))
