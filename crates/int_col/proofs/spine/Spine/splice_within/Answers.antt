use Rattle.std.proofs.Common.{arith, FitsSigned, w64, rules}
use Rattle.std.proofs.lemmas.Int.{to_z-of_z}
use Rattle.segments.proofs.Joined.{length-counts}
use Rattle.segments.proofs.Counted.{segments_count}
use Rattle.int_col.proofs.Withins.{joined_within, few_within, IsSpine-within}
use Rattle.int_col.proofs.spine.Spine.splice_within.Goals as goal

pub recount-requires : goal.recount-requires
recount-requires g c =
    let fits : FitsSigned w64 c.args.value = search rules in
    let ss = c.self.inside.segments in
    let applies = rw (← c.self.view_is) at c.requires.applies in
    let within = rw (← c.self.view_is) at c.requires.within in
    let made = rw (to_z-of_z w64 c.args.value fits) at c.in_ok-splice_shared.ensures.ok in (
      omega arith,
      (
        omega (arith, within.in_range, length-counts ss, segments_count ss c.self.inside.ends c.self.invariant.counted),
        (
          omega (arith, within.few),
          few_within ss c.args.splice.now c.args.within.now c.in_ok-segment.segment.now c.splice_shared.new.segment c.args.value applies within c.in_ok-segment.ensures.value made c.self.inside.ends c.self.invariant.counted,
        ),
      ),
    )

pub invariant_of-self-2 : goal.invariant_of-self-2
invariant_of-self-2 g c =
    let fits : FitsSigned w64 c.args.value = search rules in
    let ss = c.self.inside.segments in
    let applies = rw (← c.self.view_is) at c.requires.applies in
    let within = rw (← c.self.view_is) at c.requires.within in
    let made = rw (to_z-of_z w64 c.args.value fits) at c.in_ok-splice_shared.ensures.ok in
    IsSpine-within ss c.args.splice.now c.args.within.now c.in_ok-segment.segment.now c.splice_shared.new.segment c.args.value applies within c.in_ok-segment.ensures.value made c.self.inside.ends c.recount.new.self c.self.invariant.counted c.recount.ensures

pub returns-clause-ok : goal.returns-clause-ok
returns-clause-ok g c =
    let fits : FitsSigned w64 c.args.value = search rules in
    let ss = c.self.inside.segments in
    let applies = rw (← c.self.view_is) at c.requires.applies in
    let within = rw (← c.self.view_is) at c.requires.within in
    let made = rw (to_z-of_z w64 c.args.value fits) at c.in_ok-splice_shared.ensures.ok in
    rw (← c.self.view_is)
    (joined_within ss c.args.splice.now c.args.within.now c.in_ok-segment.segment.now c.splice_shared.new.segment c.args.value applies within c.in_ok-segment.ensures.value made)
