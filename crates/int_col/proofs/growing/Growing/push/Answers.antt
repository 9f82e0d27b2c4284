use Rattle.std.proofs.Common.{FitsSigned, w64, rules}
use Rattle.std.proofs.lemmas.Int.{to_z-of_z}
use Rattle.int_col.proofs.Grown.{segments_longer, last_takes}
use Rattle.int_col.proofs.growing.Growing.push.Goals as goal

pub invariant_of-self : goal.invariant_of-self
invariant_of-self c =
    let fits : FitsSigned w64 c.args.value = search rules in
    let p = c.self.inside.parts.value in
    let takes = rw (← c.self.view_is) at c.requires.takes in
    let few = rw (← c.self.view_is) at c.requires.few in
    rw (c.push.ensures, to_z-of_z w64 c.args.value fits, c.deref_mut.ensures.value)
    (segments_longer p.head p.tail c.args.value c.self.invariant (last_takes p.head p.tail c.args.value takes) few)
