use Rattle.std.proofs.Common.{◌≡◌, ◌≤◌, ◌+◌, ◌++◌, length, take, drop, refl, ap, arith, sym, subst, ◌∙◌}
use Rattle.std.proofs.lemmas.Result.{on_ok_weaker}
use Rattle.live.specs.Chains.{AreNow}
use Rattle.live.specs.Keeping.{AreKept}
use Rattle.live.specs.Putting.{least_room, no_bound, set_aside}
use Rattle.live.specs.States.{Watching}
use Rattle.live.proofs.Room.{reserved_room, same_kept}
use Rattle.live.proofs.Standing.{now_same}
use Rattle.live.proofs.Turning.{written}
use Rattle.live.proofs.watches.Watches.reserve.Goals as goal

pub invariant_of-self-2 : goal.invariant_of-self-2
invariant_of-self-2 c =
    let new = c.reserve_all.new.watches in
    let old = c.deref_mut.result.now in
    let e = c.reserve_all.ensures in
    let long = c.self.inside.list.ok.0 in
    let back : take c.self.inside.list.len (new ++ drop (length new) c.self.inside.list.items) ≡ new =
    written c.self.inside.list.len new c.self.inside.list.items (sym long) (e.same.long ∙ ap length c.deref_mut.ensures.value ∙ sym long) in
    subst (λ ws. AreKept ws c.self.inside.noted) (sym back)
    (same_kept c.self.inside.noted old new e.same e.going e.grown (subst (λ ws. AreKept ws c.self.inside.noted) (sym c.deref_mut.ensures.value) c.self.invariant))

pub returns-clause-now : goal.returns-clause-now
returns-clause-now c =
    let new = c.reserve_all.new.watches in
    let old = c.deref_mut.result.now in
    let e = c.reserve_all.ensures in
    let long = c.self.inside.list.ok.0 in
    let back : take c.self.inside.list.len (new ++ drop (length new) c.self.inside.list.items) ≡ new =
    written c.self.inside.list.len new c.self.inside.list.items (sym long) (e.same.long ∙ ap length c.deref_mut.ensures.value ∙ sym long) in
    let lent : old ≡ c.args.self.now.watches = c.deref_mut.ensures.value ∙ ap (λ (s : Watching). s.watches) c.self.view_is in
    λ schema rows h. subst (AreNow schema rows) (sym back) (now_same schema rows old new e.same (subst (AreNow schema rows) (sym lent) h))

pub returns-clause-spare : goal.returns-clause-spare
returns-clause-spare c =
    let new = c.reserve_all.new.watches in
    let e = c.reserve_all.ensures in
    let long = c.self.inside.list.ok.0 in
    let back : take c.self.inside.list.len (new ++ drop (length new) c.self.inside.list.items) ≡ new =
    written c.self.inside.list.len new c.self.inside.list.items (sym long) (e.same.long ∙ ap length c.deref_mut.ensures.value ∙ sym long) in
    let small = c.ranges.more.fits in
    let few : c.args.more + 1 ≤ no_bound = omega arith in
    on_ok_weaker c.reserve_all.result (λ h. subst (λ ws. c.args.more ≤ set_aside c.self.inside.noted (least_room ws)) (sym back) (reserved_room c.self.inside.noted c.args.more (c.args.more + 1) new refl few h)) e.room
