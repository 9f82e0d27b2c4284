use Rattle.std.proofs.Common.{arith}
use Rattle.std.proofs.lemmas.List.{length-drop}
use Rattle.bit_pack.specs.Packed.{packing}
use Rattle.bit_pack.proofs.Parts.{length-packing}
use Rattle.segments.specs.Joined.{joined}
use Rattle.int_col.proofs.packed.PackedBytes.fill.Goals as goal

pub fill-requires-clause-within : goal.fill-requires-clause-within
fill-requires-clause-within c =
    let room = rw (← c.self.view_is) at c.requires in
    let xs = joined c.self.inside.segments.now in
    let w = c.self.inside.width in
    omega (arith, room, c.self.invariant.within, length-drop c.self.inside.from (packing w xs), length-packing w xs)

pub invariant_of-self : goal.invariant_of-self
invariant_of-self c =
    let room = rw (← c.self.view_is) at c.requires in
    let xs = joined c.self.inside.segments.now in
    let w = c.self.inside.width in
    record {
      few = c.self.invariant.few;
      least = c.self.invariant.least;
      within = omega (arith, room, c.self.invariant.within, length-drop c.self.inside.from (packing w xs), length-packing w xs, c.fill.auto.into);
    }
