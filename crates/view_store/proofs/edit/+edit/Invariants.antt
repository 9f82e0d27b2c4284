use Rattle.std.proofs.Common.{length}
use Rattle.view_store.proofs.edit.+edit.Given as goal

abbrev pub decreases-edit : goal.decreases-edit
decreases-edit l = length l.steps.now
