use Rattle.segments.proofs.Joined.{stop_within}
use Rattle.bytes_col.proofs.spine.Spine.parts_after.Goals as goal

pub add_to-requires-2-clause-within : goal.add_to-requires-2-clause-within
add_to-requires-2-clause-within c = stop_within c.args.self.now c.args.splice.now c.args.replaced.now c.requires.covers
