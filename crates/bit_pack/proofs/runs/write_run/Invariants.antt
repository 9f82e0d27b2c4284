-- The bytes are the values so far, and zeros in place of the others.
use Rattle.std.proofs.Common.{◌-◌, ◌++◌, pos, length, take, replicate}
use Rattle.bit_pack.specs.Packed.{PackedAt}
use Rattle.bit_pack.proofs.runs.write_run.Given as goal

abbrev pub invariant-loop-at : goal.invariant-loop-at
invariant-loop-at g l = PackedAt g.L.Lane.width (take l.at l.values ++ replicate (length l.values - l.at) (pos 0)) l.into
