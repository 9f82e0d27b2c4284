use Rattle.recovery.proofs.Footprints.{may_stand}
use Rattle.storage.proofs.laws.a_crash_leaves_a_commit.Goals as goal

pub returns : goal.returns
returns c = may_stand
