use Rattle.std.proofs.Common.{All, take}
use Rattle.tables.specs.Columns.{home_of}
use Rattle.tables.specs.Pools.{IsSimpleHome}
use Rattle.tables.specs.Stored.{stored_of}
use Rattle.tables.proofs.cols.have_simple_homes.Given as goal

-- the columns so far have such homes
abbrev pub invariant-loop-col : goal.invariant-loop-col
invariant-loop-col l = All (λ c. IsSimpleHome (home_of (stored_of c))) (take l.col-index l.cols)
