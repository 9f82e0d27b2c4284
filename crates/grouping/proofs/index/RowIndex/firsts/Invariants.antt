use Rattle.std.proofs.Common.{◌≡◌, take}
use Rattle.grouping.specs.Index.{keys_of}
use Rattle.grouping.proofs.Positions.{heads}
use Rattle.grouping.proofs.index.RowIndex.firsts.Given as goal

-- the first positions of the groups so far
abbrev pub invariant-loop-group : goal.invariant-loop-group
invariant-loop-group l = l.firsts.items ≡ heads l.self (take l.group (keys_of l.self))
