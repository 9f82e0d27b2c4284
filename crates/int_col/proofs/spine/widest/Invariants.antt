use Rattle.std.proofs.Common.{take}
use Rattle.bit_pack.specs.Width.{IsLeastWidth}
use Rattle.segments.specs.Joined.{joined}
use Rattle.int_col.proofs.spine.widest.Given as goal

abbrev pub invariant-loop-k : goal.invariant-loop-k
invariant-loop-k l = IsLeastWidth l.width (joined (take l.k l.segments))
