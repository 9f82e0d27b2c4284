use Rattle.std.proofs.Common.{◌≡◌, take}
use Rattle.tables.specs.Pools.{blocks_of_tables}
use Rattle.tables.proofs.pool.blocks_of.Given as goal

-- the blocks of the tables so far
abbrev pub invariant-loop-table : goal.invariant-loop-table
invariant-loop-table l = l.blocks.items ≡ blocks_of_tables (take l.table-index l.tables)
