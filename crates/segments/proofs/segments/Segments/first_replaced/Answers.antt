use Rattle.std.proofs.Common.{arith}
use Rattle.segments.proofs.Counts.{length-counts_from}
use Rattle.segments.proofs.segments.Segments.first_replaced.Goals as goal

pub returns-then-at-len-clause-in_range : goal.returns-then-at-len-clause-in_range
returns-then-at-len-clause-in_range g c = rw (← c.self.view_is) (omega (arith, length-counts_from 0 c.self.inside.ends.items))

pub returns-then-at-len-clause-none : goal.returns-then-at-len-clause-none
returns-then-at-len-clause-none g c = λ _. rw (← c.self.view_is) (omega (arith, length-counts_from 0 c.self.inside.ends.items))
