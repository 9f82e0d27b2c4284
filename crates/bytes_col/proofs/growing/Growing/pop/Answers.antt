use Rattle.std.proofs.Common.{◌<◌, ◌∙◌, [], ◌∷◌, ◌++◌, length, ap, arith}
use Rattle.segments.specs.Joined.{joined}
use Rattle.segments.proofs.Last.{joined-front, last_is}
use Rattle.bytes_col.proofs.growing.Growing.pop.Goals as goal

pub returns : goal.returns
returns c =
    let p = c.self.inside.parts.value in
    let some : 0 < length p.tail = omega (arith, rw (← c.self.view_is) at c.requires, ap length (last_is p.head p.tail)) in
    rw (← c.self.view_is, c.deref_mut.ensures.value)
    (ap (λ z. joined (p.head ++ z ∷ [])) (rw c.deref_mut.ensures.value at c.pop.ensures) ∙ joined-front p.head p.tail [] some)
