use Rattle.std.proofs.Common.{map, sym, subst, ◌∙◌}
use Rattle.shell.specs.Ran.{RanServing}
use Rattle.shell.specs.declared.status.Status.{Status}
use Rattle.shell.proofs.Saying.{opened_by, ran_serving, refuses_file, unopened}
use Rattle.shell.proofs.running.serve_file.Goals as goal

pub returns-in-Ok-clause-ran : goal.returns-in-Ok-clause-ran
returns-in-Ok-clause-ran g c = λ tells.
    let e = c.in-Ok.ensures in
    ran_serving (map g.V.Viewer.meaning c.args.viewers.now) c.args.mode c.args.cap c.greet_and_serve.result (g.H.Disk.outside c.args.host.now) (g.H.Disk.outside c.start.new.host) (g.H.Disk.outside c.greet_and_serve.new.host) c.in-Ok.session
    (record { opens = opened_by _ (g.H.Disk.outside c.args.host.now) (g.H.Disk.outside c.start.new.host) e.counts (e.said tells) (e.input tells) (e.moments tells) (λ some. (e.untouched tells some).still); starts = e.starts tells })
    c.greet_and_serve.ensures.status (c.greet_and_serve.ensures.ran tells)

pub returns-in-Ok-fault_of-clause-ran : goal.returns-in-Ok-fault_of-clause-ran
returns-in-Ok-fault_of-clause-ran g c = λ tells.
    let e = c.in-Err.ensures in
    let old = g.H.Disk.outside c.args.host.now in
    let new = g.H.Disk.outside c.refuse.new.host in
    subst (λ (s : Status). RanServing (map g.V.Viewer.meaning c.args.viewers.now) c.args.mode c.args.cap s old new) (sym c.refuse.ensures.status)
    (refuses_file _ c.args.mode c.in-Err.error c.in-Ok-fault_of.fault old (g.H.Disk.outside c.start.new.host) new (sym c.fault_of.ensures ∙ c.in-Ok-fault_of.is) (e.refused tells) e.counts (c.refuse.ensures.says tells))

pub returns-in-Err-fault_of-clause-ran : goal.returns-in-Err-fault_of-clause-ran
returns-in-Err-fault_of-clause-ran g c = λ tells.
    let e = c.in-Err.ensures in
    unopened _ (map g.V.Viewer.meaning c.args.viewers.now) c.args.mode c.args.cap c.in-Err.error c.in-Err-fault_of.status (g.H.Disk.outside c.args.host.now) (g.H.Disk.outside c.start.new.host) (sym c.fault_of.ensures ∙ c.in-Err-fault_of.is) (e.refused tells) e.counts
    (opened_by _ (g.H.Disk.outside c.args.host.now) (g.H.Disk.outside c.start.new.host) e.counts (e.said tells) (e.input tells) (e.moments tells) (λ some. (e.untouched tells some).still))
