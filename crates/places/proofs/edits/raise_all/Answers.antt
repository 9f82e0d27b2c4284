use Rattle.std.proofs.Common.{ℕ, List, ◌+◌, ◌<◌, ◌^◌, map, set, ap, sym, subst, ◌∙◌}
use Rattle.std.specs.List.{All}
use Rattle.std.proofs.lemmas.List.Edits.{map_over_more}
use Rattle.row_edits.specs.Runs.{moved_up}
use Rattle.places.proofs.Passes.{ahead, in_chunk}
use Rattle.places.proofs.edits.raise_all.Goals as goal

pub raise-requires : goal.raise-requires
raise-requires c =
    let i : ℕ = c.loop-chunk.chunk-index in
    let f : List ℕ → List ℕ = map (moved_up c.args.from c.args.by) in
    subst (λ (ys : List ℕ). All (λ p. p + c.args.by < 2 ^ 32) ys) (sym (sym c.chunk-item.is ∙ ahead f c.args.chunks.now c.loop-chunk.chunks i c.chunk-item.result c.loop-chunk-test.true c.loop-chunk.invariant c.chunk-item.is))
    (in_chunk (λ p. p + c.args.by < 2 ^ 32) c.args.chunks.now i c.loop-chunk-test.true c.requires)

pub loop-chunk-preserved : goal.loop-chunk-preserved
loop-chunk-preserved c =
    let i : ℕ = c.loop-chunk.chunk-index in
    let f : List ℕ → List ℕ = map (moved_up c.args.from c.args.by) in
    ap (set c.loop-chunk.chunks i) (c.raise.ensures ∙ ap f (sym c.chunk-item.is))
    ∙ map_over_more f c.args.chunks.now c.loop-chunk.chunks i c.chunk-item.result c.loop-chunk-test.true c.loop-chunk.invariant c.chunk-item.is
