use Rattle.std.proofs.Common.{◌≡◌, ◌++◌, take}
use Rattle.std.specs.List.{flat_map}
use Rattle.tables.specs.Columns.{home_of}
use Rattle.tables.specs.Rests.{blocks_of}
use Rattle.tables.specs.Stored.{stored_of}
use Rattle.tables.proofs.pool.push_blocks.Given as goal

-- the blocks of the columns so far stand behind those that were there
abbrev pub invariant-loop-col : goal.invariant-loop-col
invariant-loop-col l = l.blocks.items ≡ l.fn.blocks.items ++ flat_map (λ c. blocks_of (home_of (stored_of c))) (take l.col-index l.col-items)
