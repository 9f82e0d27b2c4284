use Rattle.aside_disk.proofs.Standing.{over_is}
use Rattle.aside_disk.proofs.aside.Aside.look.Goals as goal

pub returns : goal.returns
returns g c = rw (← c.self.view_is) (record { over = over_is c.self.invariant })
