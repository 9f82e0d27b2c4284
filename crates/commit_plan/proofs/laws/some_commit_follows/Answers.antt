use Rattle.commit_plan.proofs.SomeFollows.{some_follows}
use Rattle.commit_plan.proofs.laws.some_commit_follows.Goals as goal

pub returns : goal.returns
returns c = some_follows
