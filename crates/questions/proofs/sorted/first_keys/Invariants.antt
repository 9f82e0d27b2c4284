use Rattle.std.proofs.Common.{◌≡◌, take}
use Rattle.questions.specs.Places.{first_keys}
use Rattle.questions.proofs.sorted.first_keys.Given as goal

abbrev pub invariant-loop-key : goal.invariant-loop-key
invariant-loop-key l = l.first ≡ first_keys (take l.key-index l.keys)
