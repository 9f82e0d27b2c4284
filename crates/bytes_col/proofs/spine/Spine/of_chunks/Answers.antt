use Rattle.std.proofs.Common.{ap, sum, arith}
use Rattle.std.proofs.lemmas.List.{append-nil}
use Rattle.segments.specs.Joined.{counts_of}
use Rattle.segments.proofs.Joined.{length-joined}
use Rattle.bytes_col.proofs.spine.Spine.of_chunks.Goals as goal

pub put-requires-clause-few : goal.put-requires-clause-few
put-requires-clause-few c =
    rw c.new-spine.ensures
    (omega (arith, c.requires, length-joined c.args.chunks, ap sum (append-nil (counts_of c.args.chunks))))
