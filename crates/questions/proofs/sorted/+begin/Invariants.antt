use Rattle.std.proofs.Common.{length}
use Rattle.questions.proofs.sorted.+begin.Given as goal

abbrev pub decreases-begin : goal.decreases-begin
decreases-begin l = length l.criteria.now
