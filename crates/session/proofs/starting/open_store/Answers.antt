use Rattle.std.proofs.Common.{ap, sym, subst}
use Rattle.lines.specs.Served.{state_of}
use Rattle.session.specs.Disk.{IsSteady}
use Rattle.session.specs.Starting.{IsStartRefusal, StartsAs}
use Rattle.session.specs.World.{World, world_over}
use Rattle.session.specs.declared.starting.StartError.{StartError}
use Rattle.session.proofs.Started.{ready_open, start_refused, starts_open}
use Rattle.session.proofs.starting.open_store.Goals as goal

pub returns-in-Ok-clause-starts : goal.returns-in-Ok-clause-starts
returns-in-Ok-clause-starts g c = λ tells.
    let old = g.H.Disk.outside c.args.host.now in
    let new = g.H.Disk.outside c.open.new.disk in
    let world : World = world_over c.in-Ok.store in
    let e = c.in-Ok.ensures in
    subst (λ (w : World). StartsAs c.args.mode c.args.cap old.now.disk.seen (state_of w new)) (sym c.session_over.ensures.store)
    (starts_open world old new (e.same tells) c.args.mode c.args.cap (ap world_over e.new) c.session_over.ensures.whole (e.rests tells) (c.requires.some tells))

pub returns-in-Ok-clause-ready : goal.returns-in-Ok-clause-ready
returns-in-Ok-clause-ready g c = λ tells.
    let old = g.H.Disk.outside c.args.host.now in
    let new = g.H.Disk.outside c.open.new.disk in
    let world : World = world_over c.in-Ok.store in
    let e = c.in-Ok.ensures in
    subst (λ (w : World). IsSteady (state_of w new)) (sym c.session_over.ensures.store)
    (ready_open world old new (e.same tells) c.session_over.ensures.whole (e.rests tells))

pub returns-in-Err-clause-refused : goal.returns-in-Err-clause-refused
returns-in-Err-clause-refused g c = λ tells.
    let old = g.H.Disk.outside c.args.host.now in
    let new = g.H.Disk.outside c.open.new.disk in
    let e = c.in-Err.ensures in
    subst (λ (r : StartError). IsStartRefusal c.args.mode old new r) (sym c.of_opening.ensures)
    (start_refused c.args.mode old new c.in-Err.error (c.requires.some tells) (e.same tells) (e.refused tells))
