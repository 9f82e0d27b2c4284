use Rattle.std.proofs.Common.{List, length, take, ap, length-append, arith}
use Rattle.segments.specs.Joined.{joined}
use Rattle.tables.specs.Tables.{StoredTable}
use Rattle.tables.proofs.Gathered.{flat_all, flat_more}
use Rattle.tables.proofs.builder.are_few.Goals as goal

pub loop-chunk-preserved : goal.loop-chunk-preserved
loop-chunk-preserved c =
    let item = c.chunk-item.result in
    let more = ap length (flat_more (λ (part : List StoredTable). part) c.args.chunks.now c.loop-chunk.chunk-index item c.loop-chunk-test.true c.chunk-item.is) in
    omega (arith, more, length-append (joined (take c.loop-chunk.chunk-index c.args.chunks.now)) item, c.len-count.ensures.len)

pub returns : goal.returns
returns c = omega (arith, ap length (flat_all (λ (part : List StoredTable). part) c.args.chunks.now c.loop-chunk.chunk-index (omega arith)))
