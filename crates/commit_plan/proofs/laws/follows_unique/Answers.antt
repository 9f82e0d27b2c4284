use Rattle.commit_plan.proofs.NextCommit.{one_follows}
use Rattle.commit_plan.proofs.laws.follows_unique.Goals as goal

pub returns : goal.returns
returns c = one_follows
