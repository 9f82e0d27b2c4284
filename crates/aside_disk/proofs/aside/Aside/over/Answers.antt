use Rattle.aside_disk.proofs.Standing.{stands_begins}
use Rattle.aside_disk.proofs.aside.Aside.over.Goals as goal

pub invariant_of-result : goal.invariant_of-result
invariant_of-result g c = rw c.first-trace.ensures (stands_begins c.requires.well c.requires.opened)
