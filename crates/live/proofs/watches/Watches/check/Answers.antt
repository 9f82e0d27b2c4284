use Rattle.std.proofs.Common.{◌≡◌, ◌<◌, length, ap, sym, subst, ◌∙◌}
use Rattle.std.specs.Option.{ForSome}
use Rattle.live.specs.Numbers.{over_of, place_of}
use Rattle.live.specs.States.{Watching}
use Rattle.live.proofs.Taking.{over_below}
use Rattle.live.proofs.watches.Watches.check.Goals as goal

pub place-over-requires : goal.place-over-requires
place-over-requires c =
    let lent : c.deref.result.now ≡ c.args.self.now.watches = c.deref.ensures.value ∙ ap (λ (s : Watching). s.watches) c.self.view_is in
    subst (λ ws. ForSome c.args.source (λ n. place_of ws n < length ws)) (sym lent) c.requires

pub depth_of-requires-clause-there : goal.depth_of-requires-clause-there
depth_of-requires-clause-there c =
    let watches = c.args.self.now.watches in
    let view : c.self.inside.list.items ≡ watches = ap (λ (s : Watching). s.watches) c.self.view_is in
    let lent : c.deref.result.now ≡ watches = c.deref.ensures.value ∙ view in
    let lent2 : c.deref-2.result.now ≡ watches = c.deref-2.ensures.value ∙ view in
    let over : c.place-over.result ≡ over_of watches c.args.source = c.place-over.ensures ∙ ap (λ ws. over_of ws c.args.source) lent in
    subst (λ ws. ForSome c.place-over.result (λ w. w < length ws)) (sym lent2)
    (subst (λ o. ForSome o (λ w. w < length watches)) (sym over) (over_below watches c.args.source c.requires))
