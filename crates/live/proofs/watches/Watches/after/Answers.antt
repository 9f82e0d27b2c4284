use Rattle.std.proofs.Common.{◌≡◌, ◌≤◌, ◌+◌, ◌++◌, List, length, get_or, take, drop, None, ap, arith, sym, subst, ◌∙◌}
use Rattle.live.specs.Keeping.{AreKept}
use Rattle.live.specs.Putting.{least_room, set_aside}
use Rattle.live.specs.States.{Watching, WatchState}
use Rattle.live.proofs.Room.{followed_room}
use Rattle.live.proofs.Seeing.{linked_inside}
use Rattle.live.proofs.Standing.{now_linked}
use Rattle.live.proofs.Turning.{written}
use Rattle.live.proofs.watches.Watches.after.Goals as goal

pub invariant_of-self : goal.invariant_of-self
invariant_of-self g c =
    let schema = g.P.Probe.schema c.args.rows.now in
    let rows = g.P.Probe.rows c.args.rows.now in
    let new = c.after_all.new.watches in
    let told = c.after_all.ensures.told in
    let long = c.self.inside.list.ok.0 in
    let back : take c.self.inside.list.len (new ++ drop (length new) c.self.inside.list.items) ≡ new =
    written c.self.inside.list.len new c.self.inside.list.items (sym long) (told.long ∙ ap length c.deref_mut.ensures.value ∙ sym long) in
    subst (λ ws. AreKept ws None) (sym back) (record {
      inside = linked_inside rows new (now_linked schema rows new c.after_all.ensures.now);
      ready = λ e is. cc;
    })

pub returns-clause-spare : goal.returns-clause-spare
returns-clause-spare g c =
    let new = c.after_all.new.watches in
    let told = c.after_all.ensures.told in
    let long = c.self.inside.list.ok.0 in
    let back : take c.self.inside.list.len (new ++ drop (length new) c.self.inside.list.items) ≡ new =
    written c.self.inside.list.len new c.self.inside.list.items (sym long) (told.long ∙ ap length c.deref_mut.ensures.value ∙ sym long) in
    let old = c.args.self.now.watches in
    let lent : c.deref_mut.result.now ≡ old = c.deref_mut.ensures.value ∙ ap (λ (s : Watching). s.watches) c.self.view_is in
    let same = ap length lent in
    subst (λ n. set_aside c.args.self.now.noted (least_room old) ≤ n) (sym (ap least_room back))
    (followed_room c.args.event.now c.args.self.now.noted old new c.requires.noted (told.long ∙ same)
    (λ k d p.
    let each = told.each k d (omega arith) in
    subst (λ (ws : List WatchState). (get_or ws k d).room ≤ (get_or new k d).room + 1) lent each.room))
