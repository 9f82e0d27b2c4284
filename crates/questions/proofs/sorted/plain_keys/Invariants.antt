use Rattle.std.proofs.Common.{◌≡◌, take}
use Rattle.relations.specs.Sorting.{all_keys}
use Rattle.questions.proofs.sorted.plain_keys.Given as goal

abbrev pub invariant-loop-col : goal.invariant-loop-col
invariant-loop-col l = l.keys ≡ all_keys (take l.col l.schema)
