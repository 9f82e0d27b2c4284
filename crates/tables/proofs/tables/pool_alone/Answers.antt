use Rattle.std.proofs.Common.{arith}
use Rattle.std.proofs.lemmas.Bool.{OnTrue_at}
use Rattle.tables.proofs.ChunkAt.{chunk_alone}
use Rattle.tables.proofs.tables.pool_alone.Goals as goal

pub returns : goal.returns
returns c =
    let yes = c.if-not-is_pool.false in
    chunk_alone c.args.at c.args.chunk.now (omega arith) c.requires (OnTrue_at yes c.is_pool.ensures.few) (OnTrue_at yes c.is_pool.ensures.homes) (OnTrue_at yes c.is_pool.ensures.shaped)
