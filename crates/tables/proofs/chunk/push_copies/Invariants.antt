use Rattle.std.proofs.Common.{◌≡◌, ◌++◌, replicate}
use Rattle.tables.proofs.chunk.push_copies.Given as goal

-- the copies so far stand behind the tables that were there
abbrev pub invariant-loop : goal.invariant-loop
invariant-loop l = l.tables.items ≡ l.fn.tables.items ++ replicate l.counter l.table
