use Rattle.std.proofs.Common.{◌≡◌}
use Rattle.questions.specs.Places.{upwards as keys_upwards}
use Rattle.questions.proofs.sorted.upwards.Given as goal

abbrev pub invariant-loop-col : goal.invariant-loop-col
invariant-loop-col l = l.keys ≡ keys_upwards l.col l.schema
