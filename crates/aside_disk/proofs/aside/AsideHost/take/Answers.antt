use Rattle.std.proofs.Common.{refl}
use Rattle.aside_disk.proofs.Standing.{stands_still}
use Rattle.aside_disk.proofs.aside.AsideHost.take.Goals as goal

pub invariant_of-self : goal.invariant_of-self
invariant_of-self g c = stands_still c.self.invariant _ (λ t. (c.take.ensures.takes t).still)

pub returns-clause-takes : goal.returns-clause-takes
returns-clause-takes g c = λ tells. let takes = c.take.ensures.takes tells in
    rw (← c.self.view_is) (record { came = takes.came; end = takes.end; err = takes.err; still = record { now = refl; past = refl } })
