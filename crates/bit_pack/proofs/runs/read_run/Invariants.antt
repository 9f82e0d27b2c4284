-- The values so far stand in their places.
use Rattle.std.proofs.Common.{◌≡◌, ℕ, ◌+◌, ◌<◌, pos, get_or}
use Rattle.bit_pack.specs.Packed.{value_at}
use Rattle.bit_pack.proofs.runs.read_run.Given as goal

abbrev pub invariant-loop-i : goal.invariant-loop-i
invariant-loop-i g l = (k : ℕ) → k < l.i → get_or l.into k (pos 0) ≡ value_at g.L.Lane.width l.bytes (l.from + k)
