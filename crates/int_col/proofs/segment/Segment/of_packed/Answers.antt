use Rattle.std.proofs.Common.{arith}
use Rattle.int_col.proofs.Segments.{packed_reaches}
use Rattle.int_col.proofs.segment.Segment.of_packed.Goals as goal

pub is_least-requires : goal.is_least-requires
is_least-requires c = packed_reaches c.args.width c.args.count c.args.count c.args.bytes.now c.requires.packed (omega arith)
