use Rattle.std.proofs.Common.{◌≡◌, map, take}
use Rattle.eval.specs.Values.{key_of}
use Rattle.questions.proofs.sorted.keys_given.Given as goal

abbrev pub invariant-loop-order : goal.invariant-loop-order
invariant-loop-order l = l.keys ≡ map key_of (take l.order-index l.orders)
