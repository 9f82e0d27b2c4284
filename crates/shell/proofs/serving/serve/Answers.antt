use Rattle.std.proofs.Common.{map}
use Rattle.lines.specs.Served.{state_of}
use Rattle.session.proofs.Machines.{ready, steady}
use Rattle.shell.proofs.Saying.{serves_as}
use Rattle.shell.proofs.serving.serve.Goals as goal

pub serve-requires-clause-ready : goal.serve-requires-clause-ready
serve-requires-clause-ready g c = λ tells. ready (map g.V.Viewer.meaning c.args.viewers.now) (state_of c.args.session.now (g.H.Disk.outside c.args.host.now)) (c.requires.ready tells)

pub returns-clause-serves : goal.returns-clause-serves
returns-clause-serves g c = λ tells. rw c.into.ensures (serves_as (map g.V.Viewer.meaning c.args.viewers.now) c.serve.result _ _ _ _ _ (c.serve.ensures.serves tells))

pub returns-clause-ready : goal.returns-clause-ready
returns-clause-ready g c = λ tells. steady (map g.V.Viewer.meaning c.args.viewers.now) (state_of c.serve.new.session (g.H.Disk.outside c.serve.new.host)) (c.serve.ensures.ready tells)
