use Rattle.std.proofs.Common.{◌≡◌, take}
use Rattle.tables.specs.Pools.{blocks_count}
use Rattle.tables.proofs.pool.blocks_of_schema.Given as goal

-- the blocks of the properties so far
abbrev pub invariant-loop-prop : goal.invariant-loop-prop
invariant-loop-prop l = l.count ≡ blocks_count (take l.prop-index l.prop-items)
