use Rattle.std.proofs.Common.{FitsSigned, w64, sym, subst, ◌∙◌, rules}
use Rattle.std.proofs.lemmas.Int.{to_z-of_z}
use Rattle.std.proofs.lemmas.Result.{on_ok_weaker}
use Rattle.segments.proofs.Joined.{same_counts, set_place}
use Rattle.int_col.specs.Cuts.{AreCuts}
use Rattle.int_col.proofs.spine.Spine.set.Goals as goal

pub invariant_of-self-2 : goal.invariant_of-self-2
invariant_of-self-2 c =
    let same = same_counts c.self.inside.segments c.args.at c.find-place.result c.in_ok-segment.segment.now
    (rw (← c.self.view_is) at c.find-place.ensures.place) c.in_ok-segment.ensures.value c.set_shared.new.segment c.set_shared.ensures.len in
    record { cut = subst AreCuts (sym same) c.self.invariant.cut; counted = c.self.invariant.counted ∙ sym same }

pub returns-clause-values : goal.returns-clause-values
returns-clause-values c =
    let fits : FitsSigned w64 c.args.value = search rules in
    rw (← c.self.view_is)
    (on_ok_weaker c.set_shared.result
    (set_place c.self.inside.segments c.args.at c.find-place.result c.in_ok-segment.segment.now
    (rw (← c.self.view_is) at c.find-place.ensures.place) c.in_ok-segment.ensures.value c.set_shared.new.segment c.args.value)
    (rw (to_z-of_z w64 c.args.value fits) at c.set_shared.ensures.ok))

pub returns-clause-cuts : goal.returns-clause-cuts
returns-clause-cuts c =
    rw (← c.self.view_is)
    (same_counts c.self.inside.segments c.args.at c.find-place.result c.in_ok-segment.segment.now
    (rw (← c.self.view_is) at c.find-place.ensures.place) c.in_ok-segment.ensures.value c.set_shared.new.segment c.set_shared.ensures.len)
