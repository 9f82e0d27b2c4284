use Rattle.std.proofs.Common.{◌≡◌, ◌-◌, ◌++◌, take, drop}
use Rattle.bytes_col.specs.Parts.{added}
use Rattle.bytes_col.proofs.parts.Parts.add.Given as goal

abbrev pub invariant-loop-at : goal.invariant-loop-at
invariant-loop-at l = added l.self ≡ added l.initial.self ++ take (l.at - l.from) (drop l.from l.chunk)
