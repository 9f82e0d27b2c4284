use Rattle.std.proofs.Common.{ℕ, ◌+◌, ◌<◌, length, set, subst, sym, arith}
use Rattle.std.proofs.lemmas.List.Filters.{FiltersInPlace, FiltersInPlace-more_set}
use Rattle.row_edits.proofs.Runs.{filters_skip}
use Rattle.places.specs.Numbers.{has_rank}
use Rattle.places.proofs.Ranking.{ranked, unranked}
use Rattle.places.proofs.numbers.retain_ranked.Goals as goal
use Rattle.places.proofs.numbers.retain_ranked.Goals.{then-k, else-k}

pub loop-i-preserved : goal.loop-i-preserved
loop-i-preserved c =
    let h = c.loop-i.invariant.filters in
    let i = c.loop-i.i in
    let x : ℕ = c.index-k.result.now in
    let t = c.loop-i-test.true in
    let long = h.long in
    let lt : i < length c.loop-i.kept.items = omega arith in
    record {
      filters = elim c.if-k.branch [
        | then-k w ↦
            subst (λ s. FiltersInPlace has_rank c.args.kept.now.items (set c.loop-i.kept.items c.loop-i.left x) s (i + 1)) (sym w.left-is) (FiltersInPlace-more_set h lt (ranked x w.if-k.true) c.index-k.ensures)
        | else-k w ↦
            subst (λ s. FiltersInPlace has_rank c.args.kept.now.items (set c.loop-i.kept.items c.loop-i.left x) s (i + 1)) (sym w.left-is) (filters_skip h lt (unranked x w.if-k.false) c.index-k.ensures)
      ];
      len = c.loop-i.invariant.len;
      capacity = c.loop-i.invariant.capacity;
    }
