use Rattle.std.specs.List.{All}
use Rattle.places.proofs.Passes.{ahead, in_chunk}
use Rattle.std.proofs.Common.{◌<◌, length, subst, ℕ, List, set, ap, sym, ◌∙◌}
use Rattle.std.proofs.lemmas.List.Edits.{map_over_more}
use Rattle.places.specs.Numbers.{kept_ranked}
use Rattle.places.proofs.edits.rank_all.Goals as goal

pub keep_ranked-requires : goal.keep_ranked-requires
keep_ranked-requires c =
    let i : ℕ = c.loop-chunk.chunk-index in
    let f : List ℕ → List ℕ = kept_ranked c.args.ranks.now in
    subst (λ (ys : List ℕ). All (λ p. p < length c.args.ranks.now) ys) (sym (sym c.chunk-item.is ∙ ahead f c.args.chunks.now c.loop-chunk.chunks i c.chunk-item.result c.loop-chunk-test.true c.loop-chunk.invariant c.chunk-item.is))
    (in_chunk (λ p. p < length c.args.ranks.now) c.args.chunks.now i c.loop-chunk-test.true c.requires)

pub loop-chunk-preserved : goal.loop-chunk-preserved
loop-chunk-preserved c =
    let i : ℕ = c.loop-chunk.chunk-index in
    ap (set c.loop-chunk.chunks i) (c.keep_ranked.ensures ∙ ap (kept_ranked c.args.ranks.now) (sym c.chunk-item.is))
    ∙ map_over_more (kept_ranked c.args.ranks.now) c.args.chunks.now c.loop-chunk.chunks i c.chunk-item.result c.loop-chunk-test.true c.loop-chunk.invariant c.chunk-item.is
