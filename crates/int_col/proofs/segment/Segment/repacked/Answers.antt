use Rattle.std.proofs.Common.{arith}
use Rattle.int_col.proofs.Segments.{packed_reaches}
use Rattle.int_col.proofs.segment.Segment.repacked.Goals as goal

pub unpack_into-requires-clause-reaches : goal.unpack_into-requires-clause-reaches
unpack_into-requires-clause-reaches c =
    packed_reaches c.args.width c.args.count _ c.args.bytes.now c.requires.packed (omega (arith, c.deref_mut.ensures.len, c.in_ok-values.ensures.len))
