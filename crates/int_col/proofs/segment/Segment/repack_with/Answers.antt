use Rattle.std.proofs.Common.{arith}
use Rattle.std.proofs.lemmas.List.{length-set}
use Rattle.int_col.proofs.segment.Segment.repack_with.Goals as goal

pub of-requires : goal.of-requires
of-requires c =
    rw (c.deref.ensures.value, length-set) (omega (arith, c.in_ok-values.ensures.few))
