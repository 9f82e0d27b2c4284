use Rattle.std.proofs.Common.{sym, subst}
use Rattle.lines.specs.Served.{state_of}
use Rattle.session.specs.Disk.{IsSteady}
use Rattle.session.specs.World.{World, world_over}
use Rattle.session.proofs.Ready.{ready_at_rest, stands_at_rest}
use Rattle.session.proofs.starting.make.Goals as goal

pub returns-clause-ready : goal.returns-clause-ready
returns-clause-ready g c = λ tells.
    let to = g.H.Disk.outside c.create.new.disk in
    let world : World = world_over c.in_ok-store.store in
    subst (λ (w : World). IsSteady (state_of w to)) (sym c.session_over.ensures.store)
    (ready_at_rest (state_of world to) (stands_at_rest c.in_ok-store.store to.now.disk c.session_over.ensures.whole (c.in_ok-store.ensures.rests tells)) (c.in_ok-store.ensures.rests tells))
