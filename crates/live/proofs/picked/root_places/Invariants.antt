use Rattle.std.proofs.Common.{◌≡◌, Some, map}
use Rattle.relations.specs.Positions.{numbers}
use Rattle.live.specs.Chains.{place_in_root}
use Rattle.live.proofs.picked.root_places.Given as goal

abbrev pub invariant-loop-row : goal.invariant-loop-row
invariant-loop-row g l = l.places.items ≡ map (place_in_root l.watches (Some l.over)) (numbers l.row)
