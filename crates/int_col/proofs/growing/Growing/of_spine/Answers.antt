use Rattle.std.proofs.Common.{◌∙◌, FitsSigned, w64, rules, ap}
use Rattle.std.proofs.lemmas.Int.{to_z-of_z}
use Rattle.std.proofs.lemmas.Result.{IfOk-weaker}
use Rattle.segments.specs.Joined.{joined}
use Rattle.int_col.proofs.Grown.{segments_more, segments_pushed}
use Rattle.int_col.proofs.growing.Growing.of_spine.Goals as goal

pub of-requires-clause-segments : goal.of-requires-clause-segments
of-requires-clause-segments c =
    let fits : FitsSigned w64 c.args.value = search rules in
    rw (to_z-of_z w64 c.args.value fits, c.in_ok-clone.ensures.cases)
    (segments_more c.args.spine.now c.args.value (rw c.get-list.ensures at c.is_last_full.ensures.cut) (rw c.get-list.ensures at c.if-is_last_full.ensures.yes) c.requires).0

pub of-requires-3-clause-segments : goal.of-requires-3-clause-segments
of-requires-3-clause-segments c =
    let fits : FitsSigned w64 c.args.value = search rules in
    let pushed = segments_pushed c.args.spine.now c.args.value (rw c.get-list.ensures at c.is_last_full.ensures.cut) (rw c.get-list.ensures at c.if-is_last_full.ensures.no) c.requires in
    rw (c.in_ok-head.ensures, c.in_ok-without_last.ensures, c.deref.ensures.value, c.in_ok-last_with.ensures, to_z-of_z w64 c.args.value fits, c.get-list.ensures) pushed.0

pub returns : goal.returns
returns c =
    let fits : FitsSigned w64 c.args.value = search rules in
    let pushed = segments_pushed c.args.spine.now c.args.value (rw c.get-list.ensures at c.is_last_full.ensures.cut) (rw c.get-list.ensures at c.if-is_last_full.ensures.no) c.requires in
    let made = rw (c.in_ok-head.ensures, c.in_ok-without_last.ensures, c.deref.ensures.value, c.in_ok-last_with.ensures, to_z-of_z w64 c.args.value fits, c.get-list.ensures) at c.of-3.ensures in
    IfOk-weaker c.of-3.result _ _ (λ growing is. ap joined is ∙ pushed.1) made
