use Rattle.std.proofs.Common.{◌≡◌, ◌≤◌, ◌+◌, ◌++◌, List, length, get_or, take, drop, None, Some, ap, arith, sym, subst, ◌∙◌}
use Rattle.live.specs.Answers.{AreEditDue, HasDone, gone_by, room_followed}
use Rattle.live.specs.Chains.{AreNow, seen}
use Rattle.live.specs.Edits.{room_of}
use Rattle.live.specs.Keeping.{AreKept}
use Rattle.live.specs.Putting.{least_room, set_aside}
use Rattle.live.specs.States.{Watching, WatchState}
use Rattle.live.proofs.Room.{edit_room, room_for}
use Rattle.live.proofs.AtOnce.{now_inside}
use Rattle.live.proofs.Turning.{written}
use Rattle.live.proofs.watches.Watches.follow_edit.Goals as goal

pub follow_all-requires-clause-room : goal.follow_all-requires-clause-room
follow_all-requires-clause-room g c k d p =
    let lent : c.deref_mut.result.now ≡ c.args.self.now.watches = c.deref_mut.ensures.value ∙ ap (λ (s : Watching). s.watches) c.self.view_is in
    let same = ap length lent in
    subst (λ (ws : List WatchState). room_followed c.args.edit ≤ (get_or ws k d).room) (sym lent) (room_for c.args.self.now.noted (room_followed c.args.edit) c.args.self.now.watches c.requires.reserved k d (omega arith))

pub invariant_of-self : goal.invariant_of-self
invariant_of-self g c =
    let new = c.follow_all.new.watches in
    let taken = c.follow_all.ensures.taken in
    let long = c.self.inside.list.ok.0 in
    let back : take c.self.inside.list.len (new ++ drop (length new) c.self.inside.list.items) ≡ new =
    written c.self.inside.list.len new c.self.inside.list.items (sym long) (taken.long ∙ ap length c.deref_mut.ensures.value ∙ sym long) in
    subst (λ ws. AreKept ws None) (sym back) (record {
      inside = now_inside (g.P.Probe.schema c.args.rows.now) (g.P.Probe.rows c.args.rows.now) new c.follow_all.ensures.now;
      ready = λ e is. cc;
    })

pub returns-clause-spare : goal.returns-clause-spare
returns-clause-spare g c =
    let new = c.follow_all.new.watches in
    let taken = c.follow_all.ensures.taken in
    let long = c.self.inside.list.ok.0 in
    let back : take c.self.inside.list.len (new ++ drop (length new) c.self.inside.list.items) ≡ new =
    written c.self.inside.list.len new c.self.inside.list.items (sym long) (taken.long ∙ ap length c.deref_mut.ensures.value ∙ sym long) in
    let old = c.args.self.now.watches in
    let lent : c.deref_mut.result.now ≡ old = c.deref_mut.ensures.value ∙ ap (λ (s : Watching). s.watches) c.self.view_is in
    let same = ap length lent in
    subst (λ n. set_aside c.args.self.now.noted (least_room old) ≤ n + room_followed c.args.edit) (sym (ap least_room back))
    (edit_room c.args.edit c.args.self.now.noted old new c.requires.noted (taken.long ∙ same)
    (λ k d p.
    let each = taken.each k d (omega arith) in
    subst (λ (ws : List WatchState). (get_or ws k d).room ≤ (get_or new k d).room + room_of c.args.edit) lent each.room))

pub returns-clause-done : goal.returns-clause-done
returns-clause-done g c due k d p =
    let schema = g.P.Probe.schema c.args.rows.now in
    let rows = g.P.Probe.rows c.args.rows.now in
    let new = c.follow_all.new.watches in
    let taken = c.follow_all.ensures.taken in
    let long = c.self.inside.list.ok.0 in
    let back : take c.self.inside.list.len (new ++ drop (length new) c.self.inside.list.items) ≡ new =
    written c.self.inside.list.len new c.self.inside.list.items (sym long) (taken.long ∙ ap length c.deref_mut.ensures.value ∙ sym long) in
    let old = c.args.self.now.watches in
    let lent : c.deref_mut.result.now ≡ old = c.deref_mut.ensures.value ∙ ap (λ (s : Watching). s.watches) c.self.view_is in
    let same = ap length lent in
    let mine : AreEditDue schema c.deref_mut.result.now c.args.edit rows = record {
      row = due.row;
      before = due.before;
      now = subst (AreNow schema due.before) (sym lent) due.now;
      range = due.range;
      made = due.made;
    } in
    let done = c.follow_all.ensures.done mine k d (omega arith) in
    subst (λ (ws : List WatchState). HasDone (get_or ws k d).answer (gone_by c.args.edit old (Some k)) (seen due.before old (Some k)) (seen rows ws (Some k))) (sym back)
    (subst (λ (ws : List WatchState). HasDone (get_or new k d).answer (gone_by c.args.edit ws (Some k)) (seen due.before ws (Some k)) (seen rows new (Some k))) lent done)
