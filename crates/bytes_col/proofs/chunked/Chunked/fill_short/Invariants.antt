use Rattle.std.proofs.Common.{◌+◌, ◌-◌, length}
use Rattle.segments.specs.Joined.{joined}
use Rattle.bytes_col.specs.Filled.{HasFilled}
use Rattle.bytes_col.proofs.chunked.Chunked.fill_short.Given as goal

abbrev pub invariant-loop-filled : goal.invariant-loop-filled
invariant-loop-filled l = HasFilled (joined l.self) l.row l.skip (length l.initial.into) l.into l.filled

abbrev pub decreases-loop-filled : goal.decreases-loop-filled
decreases-loop-filled l = (length (joined l.self) - l.filled.row) + (length l.initial.into - l.filled.bytes)
