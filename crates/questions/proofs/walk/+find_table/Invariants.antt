use Rattle.std.proofs.Common.{length}
use Rattle.questions.proofs.walk.+find_table.Given as goal

abbrev pub decreases-find_table : goal.decreases-find_table
decreases-find_table l = length l.steps.now
