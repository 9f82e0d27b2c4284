use Rattle.std.proofs.Common.{set, ap, sym, ◌∙◌}
use Rattle.std.proofs.lemmas.List.Edits.{map_over_more}
use Rattle.live.specs.Turns.{still_watch}
use Rattle.live.proofs.edited.answer_nothing.Goals as goal

pub loop-watch-preserved : goal.loop-watch-preserved
loop-watch-preserved c =
    let i = c.loop-watch.watch-index in
    let x = c.watch-item.result in
    ap (set c.loop-watch.watches i) (c.answer_nothing.ensures ∙ ap still_watch (sym c.watch-item.is))
    ∙ map_over_more still_watch c.args.watches.now c.loop-watch.watches i x c.loop-watch-test.true c.loop-watch.invariant c.watch-item.is
