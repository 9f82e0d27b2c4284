use Rattle.std.proofs.Common.{length}
use Rattle.view_store.proofs.walk.+find_schema.Given as goal

abbrev pub decreases-find_schema : goal.decreases-find_schema
decreases-find_schema l = length l.steps.now
