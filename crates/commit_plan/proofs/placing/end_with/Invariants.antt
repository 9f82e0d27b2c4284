use Rattle.std.proofs.Common.{◌≡◌, take}
use Rattle.free_space.specs.FreeSpace.{end_of}
use Rattle.commit_plan.proofs.placing.end_with.Given as goal

abbrev pub invariant-spans : goal.invariant-spans
invariant-spans l = l.last ≡ end_of l.fn.end (take l.span-index l.spans)
