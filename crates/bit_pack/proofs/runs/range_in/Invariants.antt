-- The least and the greatest so far.
use Rattle.std.proofs.Common.{◌≡◌, pos, fold}
use Rattle.std.specs.Int.{int_min, int_max}
use Rattle.bit_pack.specs.Packed.{values_from}
use Rattle.bit_pack.proofs.runs.range_in.Given as goal

abbrev pub invariant-loop-at : goal.invariant-loop-at
invariant-loop-at g l =
    (l.low ≡ fold int_min (pos 0) (values_from g.L.Lane.width l.bytes 0 l.at)) × (l.high ≡ fold int_max (pos 0) (values_from g.L.Lane.width l.bytes 0 l.at))
