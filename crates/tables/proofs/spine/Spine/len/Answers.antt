use Rattle.std.proofs.Common.{◌∙◌}
use Rattle.segments.proofs.Counted.{segments_len}
use Rattle.tables.proofs.spine.Spine.len.Goals as goal

pub returns-clause-len : goal.returns-clause-len
returns-clause-len c =
    rw (← c.self.view_is) (c.len.ensures.len ∙ segments_len c.self.inside.chunks c.self.inside.ends c.self.invariant.counted)
