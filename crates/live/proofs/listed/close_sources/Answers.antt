use Rattle.std.proofs.Common.{set, ap, sym, ◌∙◌}
use Rattle.std.proofs.lemmas.List.Edits.{map_over_more}
use Rattle.live.specs.Putting.{closed_source}
use Rattle.live.proofs.listed.close_sources.Goals as goal

pub loop-watch-preserved : goal.loop-watch-preserved
loop-watch-preserved c =
    let i = c.loop-watch.watch-index in
    let x = c.watch-item.result in
    ap (set c.loop-watch.watches i) (c.close_source.ensures ∙ ap (closed_source c.args.taken) (sym c.watch-item.is))
    ∙ map_over_more (closed_source c.args.taken) c.args.watches.now c.loop-watch.watches i x c.loop-watch-test.true c.loop-watch.invariant c.watch-item.is
