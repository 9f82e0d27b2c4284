use Rattle.std.proofs.Common.{arith}
use Rattle.std.proofs.lemmas.Bool.{OnTrue_at}
use Rattle.tables.proofs.ChunkAt.{chunk_at}
use Rattle.tables.proofs.spine.Spine.pool_at.Goals as goal

pub returns : goal.returns
returns c =
    let yes = c.if-not-is_pool.false in
    rw (← c.self.view_is)
    (chunk_at c.self.inside.chunks c.args.at c.find-place.result c.get-chunk.result.now (rw (← c.self.view_is) at c.find-place.ensures.place) c.get-chunk.ensures
    (omega arith) (OnTrue_at yes c.is_pool.ensures.few) (OnTrue_at yes c.is_pool.ensures.homes) (OnTrue_at yes c.is_pool.ensures.shaped))
