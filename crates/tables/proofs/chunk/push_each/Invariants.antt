use Rattle.std.proofs.Common.{◌≡◌, ◌++◌, take}
use Rattle.tables.proofs.chunk.push_each.Given as goal

-- the tables so far stand behind those that were there
abbrev pub invariant-loop-table : goal.invariant-loop-table
invariant-loop-table l = l.tables.items ≡ l.fn.tables.items ++ take l.table-index l.more
