use Rattle.std.proofs.Common.{◌≡◌, take}
use Rattle.tables.proofs.SameHomes.{homes_in_columns}
use Rattle.tables.proofs.cols.have_same_empty_homes.Given as goal

-- the homes seen so far are the same
abbrev pub invariant-loop-at : goal.invariant-loop-at
invariant-loop-at l = homes_in_columns (take l.at l.ones) ≡ homes_in_columns (take l.at l.twos)
