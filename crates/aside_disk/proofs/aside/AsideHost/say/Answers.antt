use Rattle.aside_disk.proofs.Standing.{stands_says, stands_still}
use Rattle.aside_disk.proofs.aside.AsideHost.say.Goals as goal

pub invariant_of-self : goal.invariant_of-self
invariant_of-self g c = stands_still c.self.invariant _ (λ t. (c.in_err-count.ensures.says t).err)

pub invariant_of-self-2 : goal.invariant_of-self-2
invariant_of-self-2 g c = rw c.spoke-self-inside.ensures (stands_says c.self.invariant _ _ (λ t. (c.in_ok-count.ensures.says t).ok))
