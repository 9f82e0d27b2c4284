use Rattle.std.proofs.Common.{◌≡◌, map, take}
use Rattle.eval.specs.Values.{key_of}
use Rattle.eval.proofs.on_one.keys_of.Given as goal

abbrev pub invariant-loop-order : goal.invariant-loop-order
invariant-loop-order l = l.keys ≡ map key_of (take l.order-index l.orders)
