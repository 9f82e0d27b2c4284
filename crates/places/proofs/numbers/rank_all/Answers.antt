use Rattle.std.proofs.Common.{ℕ, ◌<◌, length, get_or, arith}
use Rattle.std.proofs.lemmas.List.{get_or_default}
use Rattle.std.proofs.lemmas.List.Edits.{map_over_more}
use Rattle.places.proofs.numbers.rank_all.Goals as goal

pub loop-k-preserved : goal.loop-k-preserved
loop-k-preserved c =
    let i = c.loop-k.k-index in
    let x : ℕ = get_or c.loop-k.kept i 0 in
    let t = c.loop-k-test.true in
    let long = c.loop-k.auto.kept in
    let within : i < length c.loop-k.kept = omega arith in
    map_over_more (λ k. get_or c.args.ranks.now k 0) c.args.kept.now c.loop-k.kept i x t c.loop-k.invariant (get_or_default c.loop-k.kept i 0 x within)
