use Rattle.std.proofs.Common.{map, sym, ◌∙◌}
use Rattle.shell.proofs.Outcomes.{no_fault, ran_sampling, unsampled}
use Rattle.shell.proofs.Saying.{opened_by}
use Rattle.shell.proofs.sampling.sample_empty.Goals as goal

pub returns-in-Ok-clause-ran : goal.returns-in-Ok-clause-ran
returns-in-Ok-clause-ran g c = λ tells.
    let e = c.in-Ok.ensures in
    ran_sampling (map g.V.Viewer.meaning c.args.viewers.now) c.args.asked.number c.args.asked.edits c.args.asked.mode c.args.asked.cap c.sample_with.result (g.H.Disk.outside c.args.host.now)
    (g.H.Disk.outside c.start.new.host) (g.H.Disk.outside c.sample_with.new.host) c.in-Ok.session (c.requires.empty tells)
    (record { opens = opened_by _ (g.H.Disk.outside c.args.host.now) (g.H.Disk.outside c.start.new.host) e.counts (e.said tells) (e.input tells) (e.moments tells) (λ some. (e.untouched tells some).still); starts = e.starts tells })
    (c.sample_with.ensures.sampled tells)

pub returns-in-Ok-fault_of-clause-ran : goal.returns-in-Ok-fault_of-clause-ran
returns-in-Ok-fault_of-clause-ran g c = λ tells.
    absurd (no_fault (map g.V.Viewer.meaning c.args.viewers.now) c.args.asked.number c.args.asked.edits c.args.asked.mode c.args.asked.cap c.in-Err.error c.in-Ok-fault_of.fault
    (g.H.Disk.outside c.args.host.now) (g.H.Disk.outside c.start.new.host) (sym c.fault_of.ensures ∙ c.in-Ok-fault_of.is) c.requires.writes (c.requires.empty tells) (c.in-Err.ensures.refused tells))

pub returns-in-Err-fault_of-clause-ran : goal.returns-in-Err-fault_of-clause-ran
returns-in-Err-fault_of-clause-ran g c = λ tells.
    let e = c.in-Err.ensures in
    unsampled (map g.V.Viewer.meaning c.args.viewers.now) c.args.asked.number c.args.asked.edits c.args.asked.mode c.args.asked.cap _ c.in-Err.error c.in-Err-fault_of.status
    (g.H.Disk.outside c.args.host.now) (g.H.Disk.outside c.start.new.host) (sym c.fault_of.ensures ∙ c.in-Err-fault_of.is) (e.refused tells) e.counts
    (opened_by _ (g.H.Disk.outside c.args.host.now) (g.H.Disk.outside c.start.new.host) e.counts (e.said tells) (e.input tells) (e.moments tells) (λ some. (e.untouched tells some).still))
