use Rattle.std.proofs.Common.{arith}
use Rattle.int_col.proofs.Segments.{on_true_then}
use Rattle.int_col.proofs.PackedSplices.{exceeds_by_all, exceeds_beside}
use Rattle.int_col.proofs.segment.Segment.exceeds_after.Goals as goal

pub returns-then-splice : goal.returns-then-splice
returns-then-splice c =
    let e = c.args.splice.now in
    exceeds_by_all c.args.narrower c.args.self.now e.at e.end e.count c.args.value (omega (arith, c.if-splice.true)) (omega (arith, c.requires.applies.order, c.requires.applies.within)) c.requires.exceeds

pub returns : goal.returns
returns c =
    let e = c.args.splice.now in
    on_true_then c.another_exceeds_beside.result
    (exceeds_beside c.args.narrower c.args.self.now e.at e.end e.count c.args.value (omega (arith, c.requires.applies.order, c.requires.applies.within)))
    c.another_exceeds_beside.ensures
