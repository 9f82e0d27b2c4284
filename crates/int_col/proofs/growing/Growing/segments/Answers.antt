use Rattle.std.proofs.Common.{arith}
use Rattle.segments.specs.Joined.{counts_of}
use Rattle.segments.proofs.Joined.{length-joined, length-counts}
use Rattle.int_col.proofs.CutLaws.{cuts_count}
use Rattle.int_col.proofs.growing.Growing.segments.Goals as goal

pub overflow_add-result : goal.overflow_add-result
overflow_add-result c =
    let ss = c.get.result.now in
    record { fits = omega (arith, c.segments.ensures.count, c.segments.ensures.few, cuts_count (counts_of ss) c.segments.ensures.cut, length-counts ss, length-joined ss) }
