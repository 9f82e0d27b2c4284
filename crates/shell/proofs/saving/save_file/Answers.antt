use Rattle.std.proofs.Common.{sym, subst, ◌∙◌}
use Rattle.storage.specs.declared.mode.Mode.TheVariants.{Read}
use Rattle.shell.specs.Ran.{RanSaving, SaysLine}
use Rattle.shell.specs.declared.status.Status.{Status}
use Rattle.shell.proofs.Saying.{refuses_file, saved, silent_looks, unread}
use Rattle.shell.proofs.saving.save_file.Goals as goal

pub returns-in-Ok-fault_of-clause-ran : goal.returns-in-Ok-fault_of-clause-ran
returns-in-Ok-fault_of-clause-ran g c = λ tells.
    let e = c.in-Err.ensures in
    let old = g.H.Disk.outside c.args.host.now in
    let new = g.H.Disk.outside c.refuse.new.host in
    subst (λ (s : Status). RanSaving s old new) (sym c.refuse.ensures.status)
    (refuses_file _ Read c.in-Err.error c.in-Ok-fault_of.fault old (g.H.Disk.outside c.stream_in.new.host) new (sym c.fault_of.ensures ∙ c.in-Ok-fault_of.is) (e.refused tells) e.counts (c.refuse.ensures.says tells))

pub returns-in-Ok-clause-ran : goal.returns-in-Ok-clause-ran
returns-in-Ok-clause-ran g c = λ tells.
    let e = c.in-Ok.ensures in
    let old = g.H.Disk.outside c.args.host.now in
    let looked = g.H.Disk.outside c.stream_in.new.host in
    saved c.say_bytes.result old looked (g.H.Disk.outside c.say_bytes.new.host) c.in-Ok.stream.bytes (silent_looks _ old looked (e.same tells) e.counts) (e.saved tells)
    (rw c.as_slice.ensures at (c.say_bytes.ensures.says tells))

pub returns-in-Err-fault_of-clause-ran : goal.returns-in-Err-fault_of-clause-ran
returns-in-Err-fault_of-clause-ran g c = λ tells.
    let e = c.in-Err.ensures in
    let old = g.H.Disk.outside c.args.host.now in
    let new = g.H.Disk.outside c.stream_in.new.host in
    let silent = silent_looks _ old new (e.same tells) e.counts in
    unread (λ (s : Status). RanSaving s old new) c.in-Err.error c.in-Err-fault_of.status (sym c.fault_of.ensures ∙ c.in-Err-fault_of.is) silent silent
