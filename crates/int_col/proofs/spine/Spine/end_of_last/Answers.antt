use Rattle.std.proofs.Common.{arith}
use Rattle.segments.specs.Joined.{joined, counts_of}
use Rattle.segments.proofs.Joined.{length-counts, length-joined}
use Rattle.int_col.proofs.Withins.{end_is}
use Rattle.int_col.proofs.spine.Spine.end_of_last.Goals as goal

pub returns : goal.returns
returns c =
    let ss = c.args.self.now in
    end_is (counts_of ss) (joined ss) _ (length-joined ss) (omega (arith, c.segments-count.ensures.count, c.if-count-eq0.false, length-counts ss)) (omega (arith, c.segments-count.ensures.count, length-counts ss)) c.count_of.ensures.count
