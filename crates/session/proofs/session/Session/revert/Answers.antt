use Rattle.computing.specs.Computed.{no_computations}
use Rattle.std.proofs.Common.{◌≡◌, [], Err, false, true, ap, sym, subst, ◌∙◌}
use Rattle.std.specs.Option.{is_some}
use Rattle.cmd_text.specs.Replies.{reply_bytes}
use Rattle.cmd_text.specs.declared.command.Command.TheVariants as commands
use Rattle.cmd_text.specs.declared.reply.Reply.TheVariants.{Refused}
use Rattle.lines.specs.Served.{state_of}
use Rattle.storage.specs.Reverting.{views_without_homes}
use Rattle.storage.specs.Stored.{Stored, is_shut}
use Rattle.session.specs.Disk.{IsSteady}
use Rattle.session.specs.Carried.{Carried}
use Rattle.session.specs.Going.{GoesOn}
use Rattle.watches.specs.Keeping.{followed}
use Rattle.keyed_views.specs.Keeping.{mapped}
use Rattle.session.specs.World.{World, with_store}
use Rattle.session.proofs.OnDisk.{looked_goes, revert_made, revert_refused, views_same}
use Rattle.session.proofs.session.Session.revert.Goals as goal

pub returns-in-Err-clause-carried : goal.returns-in-Err-clause-carried
returns-in-Err-clause-carried g c = λ viewers.
    let from = g.H.Disk.outside c.args.host.now in
    let to = g.H.Disk.outside c.revert.new.disk in
    let inside : World = record { store = c.self.inside.store; snapshots = c.self.inside.snapshots; cursors = c.self.inside.cursors; watches = followed c.self.inside.watches; computed = c.self.inside.computed; mappings = mapped c.self.inside.mappings } in
    let reply = reply_bytes c.refused-in-Err.result in
    let unshut : is_shut inside.store ≡ false = subst (λ (w : World). is_shut w.store ≡ false) (sym c.self.view_is) c.requires.«open» in
    let some : is_some inside.store.before ≡ true = sym (ap is_some c.before-2.ensures.value) ∙ c.if-is_none.ensures in
    let e = c.in-Err.ensures in
    subst (λ (w : World). Carried g.H.Disk.tells viewers commands.Revert (state_of w from) reply (state_of (with_store inside c.revert.new.self) to)) c.self.view_is
    (subst (λ (s : Stored). Carried g.H.Disk.tells viewers commands.Revert (state_of inside from) reply (state_of (with_store inside s) to)) (sym e.err)
    (revert_refused g.H.Disk.tells viewers inside from to reply e.counts.later unshut some e.same c.in-Err.error
    (ap reply_bytes c.refused-in-Err.ensures.value ∙ ap (λ r. reply_bytes (Refused r)) c.of_revert.ensures) e.refused (λ is. e.counts.cause (ap Err is))))

pub returns-in-Err-clause-goes : goal.returns-in-Err-clause-goes
returns-in-Err-clause-goes g c = λ tells.
    let from = g.H.Disk.outside c.args.host.now in
    let to = g.H.Disk.outside c.revert.new.disk in
    let inside : World = record { store = c.self.inside.store; snapshots = c.self.inside.snapshots; cursors = c.self.inside.cursors; watches = followed c.self.inside.watches; computed = c.self.inside.computed; mappings = mapped c.self.inside.mappings } in
    let ready : IsSteady (state_of inside from) = subst (λ (v : World). IsSteady (state_of v from)) (sym c.self.view_is) (c.requires.ready tells) in
    let e = c.in-Err.ensures in
    subst (λ (w : World). GoesOn commands.Revert (state_of w from) (state_of (with_store inside c.revert.new.self) to) from to) c.self.view_is
    (looked_goes commands.Revert inside from to ready (with_store inside c.revert.new.self) (e.same tells) (views_same inside.store c.revert.new.self inside.store.views e.err))

pub returns-clause-carried : goal.returns-clause-carried
returns-clause-carried g c = λ viewers.
    let from = g.H.Disk.outside c.args.host.now in
    let to = g.H.Disk.outside c.revert.new.disk in
    let inside : World = record { store = c.self.inside.store; snapshots = c.self.inside.snapshots; cursors = c.self.inside.cursors; watches = followed c.self.inside.watches; computed = c.self.inside.computed; mappings = mapped c.self.inside.mappings } in
    let new : World = record { store = c.revert.new.self; snapshots = c.self.inside.snapshots; cursors = c.clear.new.self; watches = followed c.clear-2.new.self; computed = c.clear-3.new.self; mappings = mapped c.clear-4.new.self } in
    let reply = reply_bytes c.reverted.result in
    let unshut : is_shut inside.store ≡ false = subst (λ (w : World). is_shut w.store ≡ false) (sym c.self.view_is) c.requires.«open» in
    let some : is_some inside.store.before ≡ true = sym (ap is_some c.before-2.ensures.value) ∙ c.if-is_none.ensures in
    let e = c.in-Ok.ensures in
    subst (λ (w : World). Carried g.H.Disk.tells viewers commands.Revert (state_of w from) reply (state_of new to)) c.self.view_is
    (revert_made g.H.Disk.tells viewers inside from to reply e.counts.later unshut some e.same new c.revert.new.self c.in-Ok.number
    (ap (λ cursors. record { store = c.revert.new.self; snapshots = c.self.inside.snapshots; cursors = cursors; watches = followed c.clear-2.new.self; computed = c.clear-3.new.self; mappings = mapped c.clear-4.new.self }) c.clear.ensures
    ∙ ap (λ watches. record { store = c.revert.new.self; snapshots = c.self.inside.snapshots; cursors = []; watches = followed watches; computed = c.clear-3.new.self; mappings = mapped c.clear-4.new.self }) c.clear-2.ensures
    ∙ ap (λ computed. record { store = c.revert.new.self; snapshots = c.self.inside.snapshots; cursors = []; watches = []; computed = computed; mappings = mapped c.clear-4.new.self }) c.clear-3.ensures
    ∙ ap (λ mappings. record { store = c.revert.new.self; snapshots = c.self.inside.snapshots; cursors = []; watches = []; computed = no_computations; mappings = mapped mappings }) c.clear-4.ensures)
    e.ok (ap reply_bytes c.reverted.ensures.value))

pub returns-clause-goes : goal.returns-clause-goes
returns-clause-goes g c = λ tells.
    let from = g.H.Disk.outside c.args.host.now in
    let to = g.H.Disk.outside c.revert.new.disk in
    let inside : World = record { store = c.self.inside.store; snapshots = c.self.inside.snapshots; cursors = c.self.inside.cursors; watches = followed c.self.inside.watches; computed = c.self.inside.computed; mappings = mapped c.self.inside.mappings } in
    let new : World = record { store = c.revert.new.self; snapshots = c.self.inside.snapshots; cursors = c.clear.new.self; watches = followed c.clear-2.new.self; computed = c.clear-3.new.self; mappings = mapped c.clear-4.new.self } in
    let ready : IsSteady (state_of inside from) = subst (λ (v : World). IsSteady (state_of v from)) (sym c.self.view_is) (c.requires.ready tells) in
    let e = c.in-Ok.ensures in
    subst (λ (w : World). GoesOn commands.Revert (state_of w from) (state_of new to) from to) c.self.view_is
    (looked_goes commands.Revert inside from to ready new (e.same tells) (views_same inside.store c.revert.new.self (views_without_homes e.ok.older.views) e.ok.views))
