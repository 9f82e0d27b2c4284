use Rattle.std.proofs.Common.{◌≡◌, ◌-◌, ◌≤◌, length, take, drop}
use Rattle.bit_pack.specs.Packed.{packing}
use Rattle.segments.specs.Joined.{joined}
use Rattle.int_col.proofs.segmented.Segmented.fill.Given as goal

abbrev pub invariant-loop-done : goal.invariant-loop-done
invariant-loop-done l =
    (l.done ≤ length l.into) × (take l.done l.into ≡ take l.done (drop l.from (packing l.width (joined l.self))))

abbrev pub decreases-loop-done : goal.decreases-loop-done
decreases-loop-done l = length l.initial.into - l.done
