-- Each value so far is held.
use Rattle.std.proofs.Common.{ℕ, ◌<◌}
use Rattle.bit_pack.specs.Width.{Holds}
use Rattle.bit_pack.specs.Packed.{value_at}
use Rattle.bit_pack.proofs.runs.all_held.Given as goal

abbrev pub invariant-loop-at : goal.invariant-loop-at
invariant-loop-at g l = (k : ℕ) → k < l.at → Holds l.fn.width (value_at g.L.Lane.width l.bytes k)
