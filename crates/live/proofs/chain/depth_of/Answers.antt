use Rattle.std.proofs.Common.{◌≡◌, ◌<◌, get_or, arith, ap, sym, ◌∙◌}
use Rattle.std.specs.Option.{ForSome}
use Rattle.live.specs.Chains.{depth}
use Rattle.live.specs.States.{WatchState}
use Rattle.live.proofs.Seeing.{depth_at, height, height_below}
use Rattle.live.proofs.chain.depth_of.Goals as goal

pub loop-over-preserved : goal.loop-over-preserved
loop-over-preserved c =
    let watches = c.args.watches.now in
    let w = c.in-Some.w in
    let d = c.index-watches-w.result in
    let i = c.loop-over.invariant in
    let p = i.there w c.in-Some.is in
    let src : c.source-over.result ≡ (get_or watches w d).source = c.source-over.ensures ∙ ap (λ (x : WatchState). x.source) c.index-watches-w.is in
    let below : ForSome c.source-over.result (λ s. s < w) = λ x e. c.requires.order w x d p (sym src ∙ e) in
    let near = height_below c.source-over.result w below in
    let high = ap height c.in-Some.is in
    let so_far = i.few in
    let deeper = ap (depth watches) c.in-Some.is ∙ depth_at watches c.requires.order w d p in
    let counted = i.counted in
    let here = ap (depth watches) src in
    record {
      there = λ x e. let a = below x e in omega arith;
      few = omega arith;
      counted = omega arith;
    }
