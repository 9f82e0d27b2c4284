use Rattle.std.proofs.Common.{◌≡◌, ◌++◌, take, drop}
use Rattle.tables.proofs.chunk.push_pooled.Given as goal

-- the tables so far stand behind those that were there
abbrev pub invariant-loop-at : goal.invariant-loop-at
invariant-loop-at l = l.list ≡ l.fn.list ++ take l.at (drop l.from l.pool.value)
