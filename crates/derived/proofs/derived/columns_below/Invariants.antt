use Rattle.std.proofs.Common.{◌≡◌, get_or, map, take}
use Rattle.derived.proofs.derived.columns_below.Given as goal

abbrev pub invariant-loop-column : goal.invariant-loop-column
invariant-loop-column l = l.composed ≡ map (λ i. get_or l.below i 0) (take l.column-index l.columns)
