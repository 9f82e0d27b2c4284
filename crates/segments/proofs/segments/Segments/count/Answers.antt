use Rattle.std.proofs.Common.{arith}
use Rattle.segments.proofs.Counts.{length-counts_from}
use Rattle.segments.proofs.segments.Segments.count.Goals as goal

pub returns-clause-count : goal.returns-clause-count
returns-clause-count g c = rw (← c.self.view_is) (omega (arith, length-counts_from 0 c.self.inside.ends.items))
