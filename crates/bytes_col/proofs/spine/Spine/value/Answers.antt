use Rattle.std.proofs.Common.{[], ◌∙◌}
use Rattle.segments.proofs.Joined.{read_place}
use Rattle.bytes_col.proofs.spine.Spine.value.Goals as goal

pub returns : goal.returns
returns c =
    c.value.ensures ∙ read_place c.args.self.now c.args.at c.find-place.result c.chunk-chunk.result.now c.find-place.ensures.place c.chunk-chunk.ensures []
