use Rattle.std.proofs.Common.{ℕ, ◌-◌, ◌≤◌, length, take}
use Rattle.tables.specs.Pools.{Adds}
use Rattle.tables.proofs.chunk.push_pools.Given as goal

-- the tables so far were added
abbrev pub invariant-loop-from : goal.invariant-loop-from
invariant-loop-from l = record { within : l.from ≤ length l.list; added : Adds l.fn.chunks.items (take l.from l.list) l.chunks.items }

abbrev pub decreases-loop-from : goal.decreases-loop-from
decreases-loop-from l = length l.list - l.from
