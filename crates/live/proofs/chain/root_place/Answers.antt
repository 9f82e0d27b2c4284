use Rattle.std.proofs.Common.{◌≡◌, ◌<◌, length, get_or, arith, ap, sym, subst, ◌∙◌}
use Rattle.live.specs.Chains.{place_in_root}
use Rattle.live.specs.States.{WatchState}
use Rattle.live.proofs.Seeing.{place_at}
use Rattle.live.proofs.chain.root_place.Goals as goal

pub loop-over-preserved : goal.loop-over-preserved
loop-over-preserved c =
    let watches = c.args.watches.now in
    let w = c.in-Some.w in
    let d = c.index-watches-w.result in
    let i = c.loop-over.invariant in
    let inside = c.requires.inside in
    let p = i.there w c.in-Some.is in
    let near = i.row_in w c.in-Some.is d in
    let src : c.source-over.result ≡ (get_or watches w d).source = c.source-over.ensures ∙ ap (λ (x : WatchState). x.source) c.index-watches-w.is in
    let at : c.position-at.result ≡ get_or (get_or watches w d).kept c.loop-over.at 0 = c.position-at.ensures ∙ ap (λ (x : WatchState). get_or x.kept c.loop-over.at 0) c.index-watches-w.is in
    record {
      there = λ x e. let a = inside.sources w x d p (sym src ∙ e) in omega arith;
      row_in = λ x e d2. subst (λ j. j < length (get_or watches x d2).kept) (sym at) (inside.within w x d d2 p (sym src ∙ e) c.loop-over.at 0 near);
      place =
          ap (λ o. place_in_root watches o c.position-at.result) src ∙ ap (place_in_root watches (get_or watches w d).source) at
          ∙ sym (place_at watches inside.sources w d p c.loop-over.at near) ∙ ap (λ o. place_in_root watches o c.loop-over.at) (sym c.in-Some.is) ∙ i.place;
    }
