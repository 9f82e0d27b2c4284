use Rattle.std.proofs.Common.{◌≡◌, take}
use Rattle.tables.specs.Pools.{rows_of_tables}
use Rattle.tables.proofs.pool.rows_of.Given as goal

-- the rows of the tables so far
abbrev pub invariant-loop-table : goal.invariant-loop-table
invariant-loop-table l = l.rows ≡ rows_of_tables (take l.table-index l.tables)
