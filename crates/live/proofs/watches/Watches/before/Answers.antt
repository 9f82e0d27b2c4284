use Rattle.std.proofs.Common.{◌≡◌, ◌<◌, ◌++◌, length, take, drop, Some, ap, sym, subst, ◌∙◌}
use Rattle.live.specs.Chains.{AreNoted, AreNow, HaveRoom}
use Rattle.live.specs.Keeping.{AreKept}
use Rattle.live.specs.Putting.{least_room, set_aside}
use Rattle.live.specs.States.{Watching}
use Rattle.live.specs.Watching.{goes_from, root_turn}
use Rattle.row_edits.specs.declared.event.Event.{Event}
use Rattle.live.proofs.Room.{have_room, same_room, set_one_aside}
use Rattle.live.proofs.Seeing.{linked_inside}
use Rattle.live.proofs.Standing.{now_linked, now_same}
use Rattle.live.proofs.Turning.{written}
use Rattle.live.proofs.watches.Watches.before.Goals as goal

pub invariant_of-self : goal.invariant_of-self
invariant_of-self g c =
    let schema = g.P.Probe.schema c.args.rows.now in
    let rows = g.P.Probe.rows c.args.rows.now in
    let new = c.before_all.new.watches in
    let event = c.args.event.now in
    let same = c.before_all.ensures.same in
    let long = c.self.inside.list.ok.0 in
    let lent : c.deref_mut.result.now ≡ c.args.self.now.watches = c.deref_mut.ensures.value ∙ ap (λ (s : Watching). s.watches) c.self.view_is in
    let back : take c.self.inside.list.len (new ++ drop (length new) c.self.inside.list.items) ≡ new =
    written c.self.inside.list.len new c.self.inside.list.items (sym long) (same.long ∙ ap length c.deref_mut.ensures.value ∙ sym long) in
    let now : AreNow schema rows new = now_same schema rows c.deref_mut.result.now new same (subst (AreNow schema rows) (sym lent) c.requires.now) in
    let least : least_room new ≡ least_room c.args.self.now.watches = same_room c.deref_mut.result.now new c.before_all.ensures.room ∙ ap least_room lent in
    let noted : AreNoted (goes_from (root_turn event)) new = subst (λ o. AreNoted o new) (c.goes_from.ensures ∙ ap goes_from c.of_root.ensures) c.before_all.ensures.noted in
    let room : HaveRoom new = have_room c.args.self.now.noted new (subst (λ n. 0 < set_aside c.args.self.now.noted n) (sym least) c.requires.reserved) in
    subst (λ ws. AreKept ws (Some event)) (sym back) (record {
      inside = linked_inside rows new (now_linked schema rows new now);
      ready = λ e is. let same_event : event ≡ e = cc in (subst (λ (x : Event). AreNoted (goes_from (root_turn x)) new) same_event noted, room);
    })

pub returns-clause-now : goal.returns-clause-now
returns-clause-now g c =
    let schema = g.P.Probe.schema c.args.rows.now in
    let rows = g.P.Probe.rows c.args.rows.now in
    let new = c.before_all.new.watches in
    let same = c.before_all.ensures.same in
    let long = c.self.inside.list.ok.0 in
    let lent : c.deref_mut.result.now ≡ c.args.self.now.watches = c.deref_mut.ensures.value ∙ ap (λ (s : Watching). s.watches) c.self.view_is in
    let back : take c.self.inside.list.len (new ++ drop (length new) c.self.inside.list.items) ≡ new =
    written c.self.inside.list.len new c.self.inside.list.items (sym long) (same.long ∙ ap length c.deref_mut.ensures.value ∙ sym long) in
    let now : AreNow schema rows new = now_same schema rows c.deref_mut.result.now new same (subst (AreNow schema rows) (sym lent) c.requires.now) in
    subst (AreNow schema rows) (sym back) now

pub returns-clause-spare : goal.returns-clause-spare
returns-clause-spare g c =
    let new = c.before_all.new.watches in
    let same = c.before_all.ensures.same in
    let long = c.self.inside.list.ok.0 in
    let lent : c.deref_mut.result.now ≡ c.args.self.now.watches = c.deref_mut.ensures.value ∙ ap (λ (s : Watching). s.watches) c.self.view_is in
    let back : take c.self.inside.list.len (new ++ drop (length new) c.self.inside.list.items) ≡ new =
    written c.self.inside.list.len new c.self.inside.list.items (sym long) (same.long ∙ ap length c.deref_mut.ensures.value ∙ sym long) in
    let least : least_room new ≡ least_room c.args.self.now.watches = same_room c.deref_mut.result.now new c.before_all.ensures.room ∙ ap least_room lent in
    set_one_aside c.args.self.now.noted c.args.event.now (least_room c.args.self.now.watches)
    (least_room (take c.self.inside.list.len (new ++ drop (length new) c.self.inside.list.items)))
    (ap least_room back ∙ least)
