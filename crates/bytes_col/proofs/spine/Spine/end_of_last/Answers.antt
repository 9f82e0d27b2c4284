use Rattle.std.proofs.Common.{arith}
use Rattle.bytes_col.proofs.Edited.{end_is}
use Rattle.bytes_col.proofs.spine.Spine.end_of_last.Goals as goal

pub returns : goal.returns
returns c =
    end_is c.args.self.now c.chunk.result.now _ (omega (arith, c.count-count.ensures, c.if-count-eq0.false)) (omega (arith, c.count-count.ensures)) c.chunk.ensures c.len.ensures.count
