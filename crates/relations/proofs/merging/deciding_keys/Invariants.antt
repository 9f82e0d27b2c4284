use Rattle.std.proofs.Common.{take}
use Rattle.relations.specs.Merging.{OrderAs}
use Rattle.relations.proofs.merging.deciding_keys.Given as goal

abbrev pub invariant-loop-key : goal.invariant-loop-key
invariant-loop-key l = OrderAs (take l.key-index l.keys) l.deciding
