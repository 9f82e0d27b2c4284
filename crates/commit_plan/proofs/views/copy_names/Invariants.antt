use Rattle.std.proofs.Common.{◌≡◌, take}
use Rattle.commit_plan.proofs.views.copy_names.Given as goal

abbrev pub invariant-names : goal.invariant-names
invariant-names l = l.copy ≡ take l.name-index l.name-items
