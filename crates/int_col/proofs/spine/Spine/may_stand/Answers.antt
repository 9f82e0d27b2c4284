use Rattle.std.proofs.Common.{arith}
use Rattle.segments.specs.Joined.{counts_of}
use Rattle.segments.proofs.Joined.{length-counts}
use Rattle.int_col.proofs.Withins.{may_stand_two}
use Rattle.int_col.proofs.spine.Spine.may_stand.Goals as goal

pub returns-clause-cut : goal.returns-clause-cut
returns-clause-cut c =
    let ss = c.args.self.now in
    let t = c.args.replaced.now in
    may_stand_two c.begins_apart.result (counts_of ss) t.first t.after c.args.first c.args.second c.segments-segments.ensures.cut c.requires.order (omega (arith, c.requires.in_range, length-counts ss)) c.if-first-gt-SEGMENT_MOST.false c.if-second-gt-SEGMENT_MOST.false c.if-first-second-le-SEGMENT_MOST.false c.if-not-ends_apart.ensures c.begins_apart.ensures
