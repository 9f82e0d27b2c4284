use Rattle.std.proofs.Common.{◌≡◌, take, map}
use Rattle.tables.specs.Stored.{stored_of}
use Rattle.tables.proofs.cols.Cols.same.Given as goal

abbrev pub invariant-loop-col : goal.invariant-loop-col
invariant-loop-col l = l.cols ≡ map stored_of (take l.col-index l.col-items)
