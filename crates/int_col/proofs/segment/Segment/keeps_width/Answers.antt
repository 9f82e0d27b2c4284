use Rattle.std.proofs.Common.{FitsSigned, w64, rules}
use Rattle.std.proofs.lemmas.Int.{to_z-of_z}
use Rattle.int_col.proofs.Segments.{keeps_least, on_true_then}
use Rattle.int_col.proofs.segment.Segment.keeps_width.Goals as goal

pub returns-in-Some : goal.returns-in-Some
returns-in-Some c =
    let fits : FitsSigned w64 c.args.value = search rules in
    let held = rw (to_z-of_z w64 c.args.value fits) at c.holds.ensures in
    let exceeds = rw (to_z-of_z w64 c.args.value fits) at c.exceeds_with.ensures in
    on_true_then c.exceeds_with.result
    (keeps_least c.in-Some.narrower c.self.inside.width c.args.self.now c.args.at c.args.value (rw c.self.view_is at c.self.invariant.packed.least) c.in-Some.ensures.found (held.0 c.if-not-holds.false))
    exceeds
