use Rattle.std.proofs.Common.{◌≡◌, Some, map}
use Rattle.relations.specs.Positions.{numbers}
use Rattle.live.specs.Chains.{place_in_root}
use Rattle.live.specs.Numbers.{place_of}
use Rattle.watches.proofs.putting.watch_positions.Given as goal

abbrev pub invariant-loop-row : goal.invariant-loop-row
invariant-loop-row g l = l.places ≡ map (place_in_root l.watches.watches (Some (place_of l.watches.watches l.watch))) (numbers l.row)
