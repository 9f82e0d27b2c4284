use Rattle.shell.proofs.Saying.{said_line, unsaid_line}
use Rattle.shell.proofs.ending.say_bytes.Goals as goal

pub returns-in-Err-clause-says : goal.returns-in-Err-clause-says
returns-in-Err-clause-says g c = λ tells.
    unsaid_line c.args.bytes.now (g.H.Disk.outside c.args.host.now) (g.H.Disk.outside c.say_all.new.host) c.in-Err.field-0 (c.in-Err.ensures.says tells) c.in-Err.ensures.counts

pub returns-in-Ok-clause-says : goal.returns-in-Ok-clause-says
returns-in-Ok-clause-says g c = λ tells.
    said_line c.args.bytes.now (g.H.Disk.outside c.args.host.now) (g.H.Disk.outside c.say_all.new.host) tt (c.in-Ok.ensures.says tells) c.in-Ok.ensures.counts
