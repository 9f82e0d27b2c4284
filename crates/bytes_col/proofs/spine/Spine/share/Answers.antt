use Rattle.std.proofs.Common.{arith}
use Rattle.segments.proofs.Joined.{size_few_of}
use Rattle.bytes_col.proofs.spine.Spine.share.Goals as goal

pub size_after-size-requires-clause-fits : goal.size_after-size-requires-clause-fits
size_after-size-requires-clause-fits c =
    omega (arith, size_few_of c.args.self.now c.args.splice.now c.args.replaced.now c.requires.applies c.requires.covers)
