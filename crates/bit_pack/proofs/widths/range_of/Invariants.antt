-- The least and the greatest so far.
use Rattle.std.proofs.Common.{◌≡◌, pos, fold, take}
use Rattle.std.specs.Int.{int_min, int_max}
use Rattle.bit_pack.proofs.widths.range_of.Given as goal

abbrev pub invariant-loop-value : goal.invariant-loop-value
invariant-loop-value l =
    (l.low ≡ fold int_min (pos 0) (take l.value-index l.values)) × (l.high ≡ fold int_max (pos 0) (take l.value-index l.values))
