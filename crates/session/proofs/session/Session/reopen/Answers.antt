use Rattle.computing.specs.Computed.{no_computations}
use Rattle.std.proofs.Common.{[], Err, ap, refl, sym, subst, ◌∙◌}
use Rattle.cmd_text.specs.Replies.{reply_bytes}
use Rattle.cmd_text.specs.declared.command.Command.TheVariants as commands
use Rattle.cmd_text.specs.declared.reply.Reply.TheVariants.{Refused}
use Rattle.lines.specs.Served.{state_of}
use Rattle.storage.specs.Stored.{Stored, is_shut, reopened}
use Rattle.session.specs.Disk.{IsSteady}
use Rattle.session.specs.Carried.{Carried}
use Rattle.session.specs.Going.{GoesOn}
use Rattle.watches.specs.Keeping.{followed}
use Rattle.keyed_views.specs.Keeping.{mapped}
use Rattle.session.specs.World.{World, with_store}
use Rattle.session.proofs.OnDisk.{reopen_made, reopen_refused, reopened_goes, synced_goes}
use Rattle.session.proofs.session.Session.reopen.Goals as goal

pub returns-in-Err-clause-carried : goal.returns-in-Err-clause-carried
returns-in-Err-clause-carried g c = λ viewers.
    let from = g.H.Disk.outside c.args.host.now in
    let to = g.H.Disk.outside c.reopen.new.disk in
    let inside : World = record { store = c.self.inside.store; snapshots = c.self.inside.snapshots; cursors = c.self.inside.cursors; watches = followed c.self.inside.watches; computed = c.self.inside.computed; mappings = mapped c.self.inside.mappings } in
    let reply = reply_bytes c.refused.result in
    let e = c.in-Err.ensures in
    subst (λ (w : World). Carried g.H.Disk.tells viewers commands.Reopen (state_of w from) reply (state_of (with_store inside c.reopen.new.self) to)) c.self.view_is
    (subst (λ (s : Stored). Carried g.H.Disk.tells viewers commands.Reopen (state_of inside from) reply (state_of (with_store inside s) to)) (sym e.err)
    (reopen_refused g.H.Disk.tells viewers inside from to reply e.counts.later c.in-Err.error
    (ap reply_bytes c.refused.ensures.value ∙ ap (λ r. reply_bytes (Refused r)) c.of_opening.ensures)
    (λ tells. subst (λ (v : World). IsSteady (state_of v from)) (sym c.self.view_is) (c.requires.ready tells)) e.refused e.syncs (λ is. e.counts.cause (ap Err is))))

pub returns-in-Err-clause-goes : goal.returns-in-Err-clause-goes
returns-in-Err-clause-goes g c = λ tells.
    let from = g.H.Disk.outside c.args.host.now in
    let to = g.H.Disk.outside c.reopen.new.disk in
    let inside : World = record { store = c.self.inside.store; snapshots = c.self.inside.snapshots; cursors = c.self.inside.cursors; watches = followed c.self.inside.watches; computed = c.self.inside.computed; mappings = mapped c.self.inside.mappings } in
    let ready : IsSteady (state_of inside from) = subst (λ (v : World). IsSteady (state_of v from)) (sym c.self.view_is) (c.requires.ready tells) in
    let e = c.in-Err.ensures in
    subst (λ (w : World). GoesOn commands.Reopen (state_of w from) (state_of (with_store inside c.reopen.new.self) to) from to) c.self.view_is
    (subst (λ (s : Stored). GoesOn commands.Reopen (state_of inside from) (state_of (with_store inside s) to) from to) (sym e.err)
    (synced_goes commands.Reopen inside from to ready (is_shut inside.store) refl (e.syncs tells)))

pub returns-clause-carried : goal.returns-clause-carried
returns-clause-carried g c = λ viewers.
    let from = g.H.Disk.outside c.args.host.now in
    let to = g.H.Disk.outside c.reopen.new.disk in
    let inside : World = record { store = c.self.inside.store; snapshots = c.self.inside.snapshots; cursors = c.self.inside.cursors; watches = followed c.self.inside.watches; computed = c.self.inside.computed; mappings = mapped c.self.inside.mappings } in
    let new : World = record { store = c.reopen.new.self; snapshots = c.self.inside.snapshots; cursors = c.clear.new.self; watches = followed c.clear-2.new.self; computed = c.clear-3.new.self; mappings = mapped c.clear-4.new.self } in
    let reply = reply_bytes c.reopened.result in
    let e = c.in-Ok.ensures in
    subst (λ (w : World). Carried g.H.Disk.tells viewers commands.Reopen (state_of w from) reply (state_of new to)) c.self.view_is
    (reopen_made g.H.Disk.tells viewers inside from to reply e.counts.later new c.in-Ok.number
    (ap (λ s. record { store = s; snapshots = c.self.inside.snapshots; cursors = c.clear.new.self; watches = followed c.clear-2.new.self; computed = c.clear-3.new.self; mappings = mapped c.clear-4.new.self }) e.ok
    ∙ let store = reopened c.self.inside.store c.reopen.new.self.kept c.reopen.new.self.slot c.reopen.new.self.other in
    ap (λ cursors. record { store = store; snapshots = c.self.inside.snapshots; cursors = cursors; watches = followed c.clear-2.new.self; computed = c.clear-3.new.self; mappings = mapped c.clear-4.new.self }) c.clear.ensures
    ∙ ap (λ watches. record { store = store; snapshots = c.self.inside.snapshots; cursors = []; watches = followed watches; computed = c.clear-3.new.self; mappings = mapped c.clear-4.new.self }) c.clear-2.ensures
    ∙ ap (λ computed. record { store = store; snapshots = c.self.inside.snapshots; cursors = []; watches = []; computed = computed; mappings = mapped c.clear-4.new.self }) c.clear-3.ensures
    ∙ ap (λ mappings. record { store = store; snapshots = c.self.inside.snapshots; cursors = []; watches = []; computed = no_computations; mappings = mapped mappings }) c.clear-4.ensures)
    e.number (ap reply_bytes c.reopened.ensures.value) e.stands e.rests e.syncs)

pub returns-clause-goes : goal.returns-clause-goes
returns-clause-goes g c = λ tells.
    let from = g.H.Disk.outside c.args.host.now in
    let to = g.H.Disk.outside c.reopen.new.disk in
    let inside : World = record { store = c.self.inside.store; snapshots = c.self.inside.snapshots; cursors = c.self.inside.cursors; watches = followed c.self.inside.watches; computed = c.self.inside.computed; mappings = mapped c.self.inside.mappings } in
    let new : World = record { store = c.reopen.new.self; snapshots = c.self.inside.snapshots; cursors = c.clear.new.self; watches = followed c.clear-2.new.self; computed = c.clear-3.new.self; mappings = mapped c.clear-4.new.self } in
    let ready : IsSteady (state_of inside from) = subst (λ (v : World). IsSteady (state_of v from)) (sym c.self.view_is) (c.requires.ready tells) in
    let e = c.in-Ok.ensures in
    subst (λ (w : World). GoesOn commands.Reopen (state_of w from) (state_of new to) from to) c.self.view_is
    (reopened_goes commands.Reopen inside from to ready new (is_shut inside.store) (e.syncs tells) (e.stands tells) (e.rests tells))
