use Rattle.std.proofs.Common.{arith}
use Rattle.int_col.proofs.Segments.{count_is}
use Rattle.int_col.proofs.segment.Segment.another_exceeds_beside.Goals as goal

pub get-requires : goal.get-requires
get-requires c =
    omega (arith, count_is c.self.inside.count c.self.inside.width c.self.inside.bytes.items c.args.self.now c.self.view_is)
