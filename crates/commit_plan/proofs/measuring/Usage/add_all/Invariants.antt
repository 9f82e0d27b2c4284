use Rattle.std.proofs.Common.{take}
use Rattle.commit_plan.specs.Usage.{Adds}
use Rattle.commit_plan.proofs.measuring.Usage.add_all.Given as goal

abbrev pub invariant-spans : goal.invariant-spans
invariant-spans l = Adds (take l.span-index l.fn.spans) l.initial.self l.self
