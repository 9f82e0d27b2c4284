use Rattle.std.proofs.Common.{FitsSigned, w64, rules}
use Rattle.std.proofs.lemmas.Int.{to_z-of_z}
use Rattle.int_col.proofs.Segments.{count_is, takes_when}
use Rattle.int_col.proofs.tail.Tail.takes.Goals as goal

pub returns-then-self-lt-SEGMENT_MOST : goal.returns-then-self-lt-SEGMENT_MOST
returns-then-self-lt-SEGMENT_MOST c =
    let fits : FitsSigned w64 c.args.value = search rules in
    takes_when c.holds.result c.self.inside.width c.self.inside.count c.args.self.now c.args.value
    (rw (to_z-of_z w64 c.args.value fits) at c.holds.ensures) (rw c.self.view_is at c.self.invariant.segment.packed.least)
    (count_is c.self.inside.count c.self.inside.width c.self.inside.bytes.items c.args.self.now c.self.view_is) c.if-self-lt-SEGMENT_MOST.true
