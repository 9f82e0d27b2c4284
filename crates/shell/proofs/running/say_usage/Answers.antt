use Rattle.shell.specs.Said.{usage_line}
use Rattle.shell.proofs.Saying.{says_only}
use Rattle.shell.proofs.running.say_usage.Goals as goal

pub returns-clause-says : goal.returns-clause-says
returns-clause-says g c = λ tells.
    says_only usage_line (g.H.Disk.outside c.args.host.now) (g.H.Disk.outside c.say_all.new.host) c.say_all.result (rw c.as_bytes.ensures.value at (c.say_all.ensures.says tells)) c.say_all.ensures.counts
