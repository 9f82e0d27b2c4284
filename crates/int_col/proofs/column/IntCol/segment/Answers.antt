use Rattle.std.proofs.Common.{◌<◌, arith, length}
use Rattle.segments.proofs.Joined.{length-counts}
use Rattle.int_col.proofs.Columns.{segment_values-of}
use Rattle.int_col.proofs.column.IntCol.segment.Goals as goal

pub returns-clause-packed : goal.returns-clause-packed
returns-clause-packed c =
    let within = rw (← c.self.view_is) at c.requires in
    let l : c.args.k < length c.self.inside.segments = omega (arith, length-counts c.self.inside.segments) in
    rw (← c.self.view_is, segment_values-of c.self.inside.segments c.self.inside.home c.args.k l)
    c.segment.ensures.packed
