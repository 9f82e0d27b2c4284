use Rattle.std.proofs.Common.{ℕ, Bool, List, length, get_or, map, Some, ap, ◌∙◌, arith}
use Rattle.std.specs.List.{filter}
use Rattle.std.proofs.lemmas.List.{length-map}
use Rattle.relations.specs.Positions.{numbers}
use Rattle.relations.proofs.Ascending.{place_of}
use Rattle.relations.proofs.Numbers.{length-numbers}
use Rattle.live.specs.Leaving.{goes_at, has_rank, rank_of}
use Rattle.live.proofs.Ranking.{kept_ranked}
use Rattle.live.proofs.edited.leave_through.Goals as goal

pub leave_unranked-requires : goal.leave_unranked-requires
leave_unranked-requires c k d p =
    let w = c.index-below-over.result in
    let gone : ℕ → Bool = goes_at c.args.at c.args.count c.args.below.now (Some c.args.over) in
    let n : ℕ = length (get_or c.args.below.now c.args.over w).kept in
    let a = c.requires.within w k d p in
    let b = ap length (c.deref.ensures.value ∙ c.write_ranks.ensures.ranks w) in
    let e = length-map (numbers n) (rank_of gone) in
    let f = length-numbers n in
    omega arith

pub returns-clause-kept : goal.returns-clause-kept
returns-clause-kept c =
    let w = c.index-below-over.result in
    let kept : List ℕ = c.args.watch.now.kept in
    let gone : ℕ → Bool = goes_at c.args.at c.args.count c.args.below.now (Some c.args.over) in
    let n : ℕ = length (get_or c.args.below.now c.args.over w).kept in
    c.leave_unranked.ensures.kept ∙ ap (λ (rs : List ℕ). filter has_rank (map (λ k. get_or rs k 0) kept)) (c.deref.ensures.value ∙ c.write_ranks.ensures.ranks w)
    ∙ kept_ranked gone n (c.requires.few c.args.over w c.requires.there) kept (λ k h. let r = place_of kept k h in let a = c.requires.within w r.0 0 r.1 in let b = r.2 0 in omega arith)
