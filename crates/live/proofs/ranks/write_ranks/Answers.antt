use Rattle.std.proofs.Common.{◌+◌, ◌++◌, ◌∷◌, [], ℕ, Bool, length, Some, if◌then◌else◌, ap, ◌∙◌, arith}
use Rattle.live.specs.Leaving.{goes_at, no_rank}
use Rattle.live.specs.States.{WatchState}
use Rattle.live.proofs.Ranking.{place_few, rank_more, ranks_more}
use Rattle.live.proofs.ranks.write_ranks.Goals as goal

pub rank_behind-rank-requires : goal.rank_behind-rank-requires
rank_behind-rank-requires c =
    let d = c.index-watches-over.result in
    let gone : ℕ → Bool = goes_at c.args.at c.args.count c.args.watches.now (Some c.args.over) in
    let a = place_few gone c.loop-row.row in
    let b = c.requires.few d in
    let e = ap (λ (w : WatchState). length w.kept) c.index-watches-over.is in
    let f = c.len-row-end.ensures in
    let t = c.loop-row-test.true in
    let r = c.loop-row.invariant.rank in
    omega arith

pub loop-row-preserved : goal.loop-row-preserved
loop-row-preserved c =
    let i = c.loop-row.invariant in
    let gone : ℕ → Bool = goes_at c.args.at c.args.count c.args.watches.now (Some c.args.over) in
    record {
      ranks =
          c.push_reserved.ensures.items ∙ ap (λ r. c.loop-row.ranks.items ++ r ∷ []) (c.rank_unless.ensures ∙ ap (λ b. if b then no_rank else c.loop-row.rank) c.goes-gone.ensures)
          ∙ ranks_more gone c.loop-row.row c.loop-row.rank c.loop-row.ranks.items i.ranks i.rank;
      rank = c.rank_behind-rank.ensures ∙ ap (λ b. if b then c.loop-row.rank else c.loop-row.rank + 1) c.goes-gone.ensures ∙ rank_more gone c.loop-row.row c.loop-row.rank i.rank;
      len = omega (arith, c.push_reserved.ensures.len, i.len);
      capacity = c.push_reserved.ensures.capacity ∙ i.capacity;
    }
