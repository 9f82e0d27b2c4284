use Rattle.std.proofs.Common.{◌∙◌, ◌≡◌, ◌<◌, FitsSigned, w64, rules, ap, sym, length, arith}
use Rattle.std.proofs.lemmas.Int.{to_z-of_z}
use Rattle.std.proofs.lemmas.Result.{IfOk-weaker}
use Rattle.segments.specs.Joined.{joined}
use Rattle.segments.proofs.Last.{joined-last-more}
use Rattle.int_col.proofs.Grown.{segments_more, segments_longer, last_is_full}
use Rattle.int_col.proofs.growing.Growing.with.Goals as goal

pub of-requires-then-len-eq-SEGMENT_MOST-clause-segments : goal.of-requires-then-len-eq-SEGMENT_MOST-clause-segments
of-requires-then-len-eq-SEGMENT_MOST-clause-segments c =
    let fits : FitsSigned w64 c.args.value = search rules in
    let p = c.self.inside.parts.value in
    let full : length p.tail ≡ 2048 = sym (rw c.deref.ensures at c.len.ensures.count) ∙ c.if-len-eq-SEGMENT_MOST.true in
    let few = rw (← c.self.view_is) at c.requires in
    rw (to_z-of_z w64 c.args.value fits, c.in_ok-head.ensures, c.in_ok-to_spine.ensures, ← c.self.view_is)
    (segments_more _ c.args.value c.self.invariant.cut (last_is_full p.head p.tail full) few).0

pub returns-then-len-eq-SEGMENT_MOST : goal.returns-then-len-eq-SEGMENT_MOST
returns-then-len-eq-SEGMENT_MOST c =
    let fits : FitsSigned w64 c.args.value = search rules in
    let p = c.self.inside.parts.value in
    let full : length p.tail ≡ 2048 = sym (rw c.deref.ensures at c.len.ensures.count) ∙ c.if-len-eq-SEGMENT_MOST.true in
    let few = rw (← c.self.view_is) at c.requires in
    let made = rw (to_z-of_z w64 c.args.value fits, c.in_ok-head.ensures, c.in_ok-to_spine.ensures, ← c.self.view_is) at c.of-then-len-eq-SEGMENT_MOST.ensures in
    rw (← c.self.view_is)
    (IfOk-weaker c.of-then-len-eq-SEGMENT_MOST.result _ _ (λ growing is. ap joined is ∙ (segments_more _ c.args.value c.self.invariant.cut (last_is_full p.head p.tail full) few).1) made)

pub of-requires-2-clause-segments : goal.of-requires-2-clause-segments
of-requires-2-clause-segments c =
    let fits : FitsSigned w64 c.args.value = search rules in
    let p = c.self.inside.parts.value in
    let room : length p.tail < 2048 = omega (arith, rw c.deref.ensures at c.len.ensures.count, c.len.ensures.few, c.if-len-eq-SEGMENT_MOST.false) in
    let few = rw (← c.self.view_is) at c.requires in
    rw (c.in_ok-clone.ensures.cases, c.deref-3.ensures, c.deref-4.ensures.value, c.in_ok-values.ensures, to_z-of_z w64 c.args.value fits, c.in_ok-to_segment.ensures, c.deref-2.ensures)
    (segments_longer p.head p.tail c.args.value c.self.invariant room few)

pub returns : goal.returns
returns c =
    let fits : FitsSigned w64 c.args.value = search rules in
    let p = c.self.inside.parts.value in
    let made =
    rw (c.in_ok-clone.ensures.cases, c.deref-3.ensures, c.deref-4.ensures.value, c.in_ok-values.ensures, to_z-of_z w64 c.args.value fits, c.in_ok-to_segment.ensures, c.deref-2.ensures) at c.of-2.ensures in
    rw (← c.self.view_is)
    (IfOk-weaker c.of-2.result _ _ (λ growing is. ap joined is ∙ joined-last-more p.head p.tail c.args.value) made)
