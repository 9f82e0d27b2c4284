use Rattle.std.proofs.Common.{ℕ, List, ◌≤◌, map, set, ap, sym, subst, ◌∙◌}
use Rattle.std.specs.List.{All}
use Rattle.std.proofs.lemmas.List.Edits.{map_over_more}
use Rattle.row_edits.specs.Runs.{moved_down}
use Rattle.places.proofs.Passes.{ahead, in_chunk}
use Rattle.places.proofs.edits.lower_all.Goals as goal

pub lower-requires : goal.lower-requires
lower-requires c =
    let i : ℕ = c.loop-chunk.chunk-index in
    let f : List ℕ → List ℕ = map (moved_down c.args.at c.args.count) in
    subst (λ (ys : List ℕ). All (λ p. c.args.at ≤ p → c.args.count ≤ p) ys) (sym (sym c.chunk-item.is ∙ ahead f c.args.chunks.now c.loop-chunk.chunks i c.chunk-item.result c.loop-chunk-test.true c.loop-chunk.invariant c.chunk-item.is))
    (in_chunk (λ p. c.args.at ≤ p → c.args.count ≤ p) c.args.chunks.now i c.loop-chunk-test.true c.requires)

pub loop-chunk-preserved : goal.loop-chunk-preserved
loop-chunk-preserved c =
    let i : ℕ = c.loop-chunk.chunk-index in
    let f : List ℕ → List ℕ = map (moved_down c.args.at c.args.count) in
    ap (set c.loop-chunk.chunks i) (c.lower.ensures ∙ ap f (sym c.chunk-item.is))
    ∙ map_over_more f c.args.chunks.now c.loop-chunk.chunks i c.chunk-item.result c.loop-chunk-test.true c.loop-chunk.invariant c.chunk-item.is
