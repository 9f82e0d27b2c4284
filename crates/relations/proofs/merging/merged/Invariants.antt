use Rattle.std.proofs.Common.{take}
use Rattle.relations.specs.Merging.{AskAs}
use Rattle.relations.proofs.merging.merged.Given as goal

abbrev pub invariant-loop-criterion : goal.invariant-loop-criterion
invariant-loop-criterion l = AskAs (take l.criterion-index l.criteria) l.merged
