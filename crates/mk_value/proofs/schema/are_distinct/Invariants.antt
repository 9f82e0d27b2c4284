use Rattle.std.proofs.Common.{take}
use Rattle.mk_value.specs.Heading.{HaveDistinctNames}
use Rattle.mk_value.proofs.schema.are_distinct.Given as goal

abbrev pub invariant-loop-at : goal.invariant-loop-at
invariant-loop-at l = HaveDistinctNames (take l.at l.props)
