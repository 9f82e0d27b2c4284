use Rattle.std.proofs.Common.{FitsSigned, w64, rules}
use Rattle.std.proofs.lemmas.Int.{to_z-of_z}
use Rattle.segments.proofs.Joined.{get_place}
use Rattle.int_col.proofs.spine.Spine.get.Goals as goal

pub returns : goal.returns
returns c =
    let fits : FitsSigned w64 c.get.result = search rules in
    rw (to_z-of_z w64 c.get.result fits, ← c.self.view_is)
    (get_place c.self.inside.segments c.args.at c.find-place.result c.get-segment.result.now
    (rw (← c.self.view_is) at c.find-place.ensures.place) c.get-segment.ensures c.get.result c.get.ensures)
