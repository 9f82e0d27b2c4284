use Rattle.commit_plan.proofs.Followed.{next_sound, next_whole}
use Rattle.commit_plan.proofs.laws.the_next_commit_is_sound.Goals as goal

pub returns : goal.returns
returns c = λ floor kept views note spans next whole may follows few low. (next_whole floor kept views note spans next whole may follows few low, next_sound floor kept views note spans next whole may follows few low)
