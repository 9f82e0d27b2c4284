use Rattle.session.proofs.Started.{refused_after}
use Rattle.storage.specs.declared.mode.Mode.TheVariants.{Read}
use Rattle.shell.proofs.saving.stream_in.Goals as goal

pub returns-clause-refused : goal.returns-clause-refused
returns-clause-refused g c = λ tells.
    refused_after Read (g.H.Disk.outside c.args.host.now) (g.H.Disk.outside c.len.new.self) (g.H.Disk.outside c.stream_in_some.new.host) c.stream_in_some.result (c.in_ok-len.ensures.same tells) (c.stream_in_some.ensures.refused tells)
