use Rattle.std.proofs.Common.{FitsSigned, w64, rules}
use Rattle.std.proofs.lemmas.Int.{to_z-of_z}
use Rattle.int_col.proofs.Segments.{on_true_then}
use Rattle.int_col.proofs.PackedSplices.{keeps_least_after, keeps_none_after}
use Rattle.int_col.proofs.segment.Segment.keeps_width_after.Goals as goal

pub returns-in-None : goal.returns-in-None
returns-in-None c =
    let e = c.args.splice.now in
    let fits : FitsSigned w64 c.args.value = search rules in
    let held = rw (to_z-of_z w64 c.args.value fits) at c.holds.ensures in
    keeps_none_after c.self.inside.width c.args.self.now e.at e.end e.count c.args.value (rw c.self.view_is at c.self.invariant.packed.least) (held.0 c.if-not-holds.false) c.in-None.ensures.none

pub returns-in-Some : goal.returns-in-Some
returns-in-Some c =
    let e = c.args.splice.now in
    let fits : FitsSigned w64 c.args.value = search rules in
    let held = rw (to_z-of_z w64 c.args.value fits) at c.holds.ensures in
    let exceeds = rw (to_z-of_z w64 c.args.value fits) at c.exceeds_after.ensures in
    on_true_then c.exceeds_after.result
    (keeps_least_after c.in-Some.narrower c.self.inside.width c.args.self.now e.at e.end e.count c.args.value (rw c.self.view_is at c.self.invariant.packed.least) c.in-Some.ensures.found (held.0 c.if-not-holds.false))
    exceeds
