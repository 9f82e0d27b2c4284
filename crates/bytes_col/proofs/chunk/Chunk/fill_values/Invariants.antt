use Rattle.std.proofs.Common.{◌+◌, ◌-◌, length}
use Rattle.bytes_col.specs.Filled.{HasFilled}
use Rattle.bytes_col.proofs.chunk.Chunk.fill_values.Given as goal

abbrev pub invariant-loop-row : goal.invariant-loop-row
invariant-loop-row l = HasFilled l.self l.at l.skip (length l.initial.into) l.into (record { row = l.row; skip = l.left; bytes = l.done })

abbrev pub decreases-loop-row : goal.decreases-loop-row
decreases-loop-row l = (length l.self - l.row) + (length l.initial.into - l.done)
