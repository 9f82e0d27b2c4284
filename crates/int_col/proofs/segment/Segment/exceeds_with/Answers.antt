use Rattle.std.proofs.Common.{FitsSigned, w64, rules}
use Rattle.std.proofs.lemmas.Int.{to_z-of_z}
use Rattle.int_col.proofs.Segments.{exceeds_by_new, exceeds_by_old, exceeds_by_other, false_refutes, on_true_then}
use Rattle.int_col.proofs.segment.Segment.exceeds_with.Goals as goal

pub returns-then-not-holds : goal.returns-then-not-holds
returns-then-not-holds c =
    let fits : FitsSigned w64 c.args.value = search rules in
    exceeds_by_new c.args.narrower c.args.self.now c.args.at c.args.value c.requires.at
    (false_refutes c.holds.result (rw (to_z-of_z w64 c.args.value fits) at c.holds.ensures) c.if-not-holds.true)

pub returns-then-holds : goal.returns-then-holds
returns-then-holds c =
    let fits : FitsSigned w64 c.get.result = search rules in
    let held = rw (to_z-of_z w64 c.get.result fits) at c.holds-2.ensures in
    exceeds_by_old c.args.narrower c.args.self.now c.args.at c.args.value c.get.result c.requires.at c.get.ensures (held.0 c.if-holds.true) c.requires.exceeds

pub returns : goal.returns
returns c =
    on_true_then c.another_exceeds.result (exceeds_by_other c.args.narrower c.args.self.now c.args.at c.args.value) c.another_exceeds.ensures
