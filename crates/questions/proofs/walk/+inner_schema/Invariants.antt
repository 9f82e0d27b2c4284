use Rattle.std.proofs.Common.{length}
use Rattle.questions.proofs.walk.+inner_schema.Given as goal

abbrev pub decreases-inner_schema : goal.decreases-inner_schema
decreases-inner_schema l = length l.steps.now
