use Rattle.std.proofs.Common.{◌<◌, ℕ, List, length, take, ap, arith}
use Rattle.std.proofs.lemmas.List.{length-append}
use Rattle.bytes_col.specs.Strings.{short_bytes}
use Rattle.segments.specs.Joined.{joined}
use Rattle.bytes_col.proofs.Short.{short_few}
use Rattle.segments.proofs.Joined.{part_within}
use Rattle.bytes_col.proofs.Fills.{short_chunk_more}
use Rattle.bytes_col.proofs.spine.Spine.short_len.Goals as goal

pub overflow_add-total : goal.overflow_add-total
overflow_add-total c =
    let ss : List (List (List ℕ)) = c.args.self.now in
    let k = c.loop-k.k in
    omega (arith, c.loop-k.invariant, c.short_len-total.ensures.few, c.len-few.ensures.len, c.len-few.ensures.few, short_few (joined (take k ss)), part_within k ss)

pub loop-k-preserved : goal.loop-k-preserved
loop-k-preserved c =
    let ss : List (List (List ℕ)) = c.args.self.now in
    let k = c.loop-k.k in
    let s : List (List ℕ) = c.chunk.result.now in
    let l : k < length ss = omega (arith, c.count-k-end.ensures) in
    omega (arith, c.loop-k.invariant, c.short_len-total.ensures.count, ap length (short_chunk_more ss k s l c.chunk.ensures), length-append (short_bytes (joined (take k ss))) (short_bytes s))
