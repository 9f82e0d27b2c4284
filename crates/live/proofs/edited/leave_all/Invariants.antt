use Rattle.live.proofs.Gone.{HaveLeft}
use Rattle.live.proofs.edited.leave_all.Given as goal

abbrev pub invariant-loop-left : goal.invariant-loop-left
invariant-loop-left l = HaveLeft l.at l.count l.fn.watches l.watches l.left

abbrev pub decreases-loop-left : goal.decreases-loop-left
decreases-loop-left l = l.left
