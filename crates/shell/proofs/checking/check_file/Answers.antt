use Rattle.std.proofs.Common.{sym, subst, ◌∙◌}
use Rattle.storage.specs.declared.mode.Mode.TheVariants.{Read}
use Rattle.shell.specs.Ran.{RanChecking}
use Rattle.shell.specs.declared.status.Status.{Status}
use Rattle.shell.proofs.Saying.{checked, refuses_file, silent_looks, unread}
use Rattle.shell.proofs.checking.check_file.Goals as goal

pub returns-in-Ok-fault_of-clause-ran : goal.returns-in-Ok-fault_of-clause-ran
returns-in-Ok-fault_of-clause-ran g c = λ tells.
    let e = c.in-Err.ensures in
    let old = g.H.Disk.outside c.args.host.now in
    let new = g.H.Disk.outside c.refuse.new.host in
    subst (λ (s : Status). RanChecking s old new) (sym c.refuse.ensures.status)
    (refuses_file _ Read c.in-Err.error c.in-Ok-fault_of.fault old (g.H.Disk.outside c.check_store.new.host) new (sym c.fault_of.ensures ∙ c.in-Ok-fault_of.is) (e.refused tells) e.counts (c.refuse.ensures.says tells))

pub returns-in-Ok-clause-ran : goal.returns-in-Ok-clause-ran
returns-in-Ok-clause-ran g c = λ tells.
    let e = c.in-Ok.ensures in
    let old = g.H.Disk.outside c.args.host.now in
    let looked = g.H.Disk.outside c.check_store.new.host in
    checked c.say_report.result old looked (g.H.Disk.outside c.say_report.new.host) c.in-Ok.report (silent_looks _ old looked (e.same tells) e.counts) (e.found tells) (c.say_report.ensures.says tells)

pub returns-in-Err-fault_of-clause-ran : goal.returns-in-Err-fault_of-clause-ran
returns-in-Err-fault_of-clause-ran g c = λ tells.
    let e = c.in-Err.ensures in
    let old = g.H.Disk.outside c.args.host.now in
    let new = g.H.Disk.outside c.check_store.new.host in
    let silent = silent_looks _ old new (e.same tells) e.counts in
    unread (λ (s : Status). RanChecking s old new) c.in-Err.error c.in-Err-fault_of.status (sym c.fault_of.ensures ∙ c.in-Err-fault_of.is) silent silent
