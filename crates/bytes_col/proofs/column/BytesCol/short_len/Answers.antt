use Rattle.std.proofs.Common.{◌∙◌}
use Rattle.segments.specs.Joined.{joined}
use Rattle.bytes_col.proofs.Short.{short_sum}
use Rattle.bytes_col.proofs.column.BytesCol.short_len.Goals as goal

pub returns-clause-sum : goal.returns-clause-sum
returns-clause-sum c = rw (← c.self.view_is) (c.short_len.ensures.count ∙ short_sum (joined c.self.inside.chunks))
