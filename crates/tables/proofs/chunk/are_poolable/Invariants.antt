use Rattle.std.proofs.Common.{All, take, get_or}
use Rattle.tables.specs.Pools.{IsPoolable, no_table}
use Rattle.tables.proofs.chunk.are_poolable.Given as goal

-- the tables so far may be kept together
abbrev pub invariant-loop-table : goal.invariant-loop-table
invariant-loop-table l = All (IsPoolable (get_or l.tables 0 no_table).schema) (take l.table-index l.tables)
