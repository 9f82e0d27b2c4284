use Rattle.std.proofs.Common.{◌++◌, ◌∙◌, ap}
use Rattle.shell.specs.Said.{fault_line}
use Rattle.shell.proofs.Saying.{says_only}
use Rattle.shell.proofs.refusing.refuse.Goals as goal

pub returns-clause-says : goal.returns-clause-says
returns-clause-says g c = λ tells.
    says_only (fault_line c.args.fault) (g.H.Disk.outside c.args.host.now) (g.H.Disk.outside c.say_all.new.host) c.say_all.result
    (rw (c.as_bytes.ensures.value ∙ c.as_str.ensures.value ∙ c.write_fault.ensures.bytes ∙ ap (λ front. front ++ fault_line c.args.fault) c.requires.empty) at (c.say_all.ensures.says tells))
    c.say_all.ensures.counts
