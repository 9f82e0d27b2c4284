use Rattle.std.proofs.Common.{◌≡◌, ◌++◌, List, length, map, take, drop, None, ap, sym, subst, ◌∙◌}
use Rattle.std.specs.List.{remove}
use Rattle.std.proofs.lemmas.List.{length-map}
use Rattle.live.specs.Chains.{AreInside, AreNow}
use Rattle.live.specs.Keeping.{AreKept}
use Rattle.live.specs.Numbers.{place_of}
use Rattle.live.specs.Putting.{closed_source, without_watch}
use Rattle.live.specs.States.{Watching, WatchState}
use Rattle.live.proofs.Taking.{left_inside, left_now}
use Rattle.live.proofs.Turning.{written}
use Rattle.live.proofs.watches.Watches.take_out.Goals as goal

pub invariant_of-self : goal.invariant_of-self
invariant_of-self c =
    let watches = c.args.self.now.watches in
    let j = place_of watches c.args.watch in
    let new = c.close_sources.new.watches in
    let left = c.remove-taken.new.self.items in
    let len = c.remove-taken.new.self.len in
    let long = c.remove-taken.new.self.ok.0 in
    let view : c.self.inside.list.items ≡ watches = ap (λ (s : Watching). s.watches) c.self.view_is in
    let at : c.find-at.result ≡ j = c.find-at.ensures ∙ ap (λ (ws : List WatchState). place_of ws c.args.watch) (c.deref.ensures.value ∙ view) in
    let back : take len (new ++ drop (length new) left) ≡ new =
    written len new left (sym long)
    (ap length c.close_sources.ensures ∙ length-map c.deref_mut.result.now (closed_source c.find-at.result) ∙ ap length c.deref_mut.ensures.value ∙ sym long) in
    let taken : new ≡ without_watch j watches =
    c.close_sources.ensures
    ∙ ap (map (closed_source c.find-at.result)) (c.deref_mut.ensures.value ∙ c.remove-taken.ensures.items ∙ ap (λ (ws : List WatchState). remove ws c.find-at.result) view)
    ∙ ap (λ k. without_watch k watches) at in
    let inside : AreInside watches = subst AreInside view c.self.invariant.inside in
    subst (λ ws. AreKept ws None) (sym (back ∙ taken)) (record {
      inside = left_inside watches j c.requires.there inside.sources c.requires.free inside;
      ready = λ e is. cc;
    })

pub returns-clause-now : goal.returns-clause-now
returns-clause-now c =
    let watches = c.args.self.now.watches in
    let j = place_of watches c.args.watch in
    let new = c.close_sources.new.watches in
    let left = c.remove-taken.new.self.items in
    let len = c.remove-taken.new.self.len in
    let long = c.remove-taken.new.self.ok.0 in
    let view : c.self.inside.list.items ≡ watches = ap (λ (s : Watching). s.watches) c.self.view_is in
    let at : c.find-at.result ≡ j = c.find-at.ensures ∙ ap (λ (ws : List WatchState). place_of ws c.args.watch) (c.deref.ensures.value ∙ view) in
    let back : take len (new ++ drop (length new) left) ≡ new =
    written len new left (sym long)
    (ap length c.close_sources.ensures ∙ length-map c.deref_mut.result.now (closed_source c.find-at.result) ∙ ap length c.deref_mut.ensures.value ∙ sym long) in
    let taken : new ≡ without_watch j watches =
    c.close_sources.ensures
    ∙ ap (map (closed_source c.find-at.result)) (c.deref_mut.ensures.value ∙ c.remove-taken.ensures.items ∙ ap (λ (ws : List WatchState). remove ws c.find-at.result) view)
    ∙ ap (λ k. without_watch k watches) at in
    let inside : AreInside watches = subst AreInside view c.self.invariant.inside in
    λ schema rows h. subst (AreNow schema rows) (sym (back ∙ taken)) (left_now watches j c.requires.there inside.sources c.requires.free schema rows h)
