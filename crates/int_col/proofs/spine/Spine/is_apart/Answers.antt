use Rattle.std.proofs.Common.{arith}
use Rattle.segments.specs.Joined.{counts_of}
use Rattle.segments.proofs.Joined.{length-counts}
use Rattle.int_col.proofs.Withins.{may_stand_one}
use Rattle.int_col.proofs.spine.Spine.is_apart.Goals as goal

pub returns : goal.returns
returns c =
    let ss = c.args.self.now in
    may_stand_one c.begins_apart.result (counts_of ss) c.args.k c.args.size c.segments-segments.ensures.cut (omega (arith, c.requires.in_range, length-counts ss)) c.requires.some c.requires.few c.if-not-ends_apart.ensures c.begins_apart.ensures
