use Rattle.std.proofs.Common.{arith}
use Rattle.segments.proofs.Counts.{length-counts_from}
use Rattle.segments.proofs.Places.{start_read}
use Rattle.segments.proofs.segments.Segments.start.Goals as goal

pub index-requires : goal.index-requires
index-requires g c =
    let within = rw (← c.self.view_is) at c.requires in
    omega (arith, length-counts_from 0 c.self.inside.ends.items)

pub returns-else-k-eq0-clause-start : goal.returns-else-k-eq0-clause-start
returns-else-k-eq0-clause-start g c =
    let within = rw (← c.self.view_is) at c.requires in
    rw (← c.self.view_is)
    (start_read g.row.MOST c.self.inside.ends.items c.args.k _ c.self.invariant (omega arith) (omega (arith, length-counts_from 0 c.self.inside.ends.items)) c.index.ensures)
