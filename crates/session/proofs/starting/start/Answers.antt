use Rattle.session.proofs.Started.{refused_after}
use Rattle.session.proofs.starting.start.Goals as goal

pub returns-clause-refused : goal.returns-clause-refused
returns-clause-refused g c = λ tells.
    refused_after c.args.mode (g.H.Disk.outside c.args.host.now) (g.H.Disk.outside c.len.new.self) (g.H.Disk.outside c.open_store.new.host) c.open_store.result (c.in_ok-len.ensures.same tells)
    (c.open_store.ensures.refused tells)
