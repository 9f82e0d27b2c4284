use Rattle.std.proofs.Common.{take}
use Rattle.commit_plan.specs.Usage.{Adds}
use Rattle.commit_plan.proofs.measuring.Usage.add_blocks.Given as goal

abbrev pub invariant-placed : goal.invariant-placed
invariant-placed l = Adds (take l.block-index l.fn.blocks) l.initial.self l.self
