use Rattle.segments.proofs.Joined.{get_place}
use Rattle.tables.proofs.spine.Spine.get.Goals as goal

pub returns : goal.returns
returns c =
    rw (← c.self.view_is)
    (get_place c.self.inside.chunks c.args.at c.find-place.result c.get-chunk.result.now
    (rw (← c.self.view_is) at c.find-place.ensures.place) c.get-chunk.ensures c.get.result c.get.ensures)
