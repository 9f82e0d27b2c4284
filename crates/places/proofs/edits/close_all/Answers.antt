use Rattle.std.proofs.Common.{ℕ, set, ap, sym, ◌∙◌}
use Rattle.std.proofs.lemmas.List.Edits.{map_over_more}
use Rattle.row_edits.specs.Runs.{kept_outside}
use Rattle.places.proofs.edits.close_all.Goals as goal

pub loop-chunk-preserved : goal.loop-chunk-preserved
loop-chunk-preserved c =
    let i : ℕ = c.loop-chunk.chunk-index in
    ap (set c.loop-chunk.chunks i) (c.close.ensures ∙ ap (kept_outside c.args.low c.args.count) (sym c.chunk-item.is))
    ∙ map_over_more (kept_outside c.args.low c.args.count) c.args.chunks.now c.loop-chunk.chunks i c.chunk-item.result c.loop-chunk-test.true c.loop-chunk.invariant c.chunk-item.is
