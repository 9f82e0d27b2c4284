use Rattle.std.proofs.Common.{length, ap, arith}
use Rattle.std.specs.List.{concat}
use Rattle.places.proofs.Ranking.{ranked_few}
use Rattle.places.proofs.edits.keep_ranked.Goals as goal

pub tidy-requires-clause-few : goal.tidy-requires-clause-few
tidy-requires-clause-few c =
    let few = ranked_few c.args.ranks.now (concat c.args.chunks.now.items) in
    let old = c.requires.held.few in
    let e = ap length c.rank.ensures.list in
    omega arith
