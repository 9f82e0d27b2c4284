use Rattle.std.proofs.Common.{◌≡◌, take}
use Rattle.tables.proofs.chunk.own_tables.Given as goal

-- the tables so far
abbrev pub invariant-loop-item : goal.invariant-loop-item
invariant-loop-item l = l.tables.items ≡ take l.item-index l.items
