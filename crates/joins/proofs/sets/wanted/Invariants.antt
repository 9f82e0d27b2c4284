use Rattle.std.proofs.Common.{◌≡◌, false, get_or}
use Rattle.std.specs.List.{filter}
use Rattle.relations.specs.Positions.{numbers}
use Rattle.joins.specs.Sets.{is_wanted}
use Rattle.joins.proofs.sets.wanted.Given as goal

abbrev pub invariant-loop-at : goal.invariant-loop-at
invariant-loop-at l = l.positions ≡ filter (λ i. is_wanted l.among (get_or l.marks i false)) (numbers l.at)
