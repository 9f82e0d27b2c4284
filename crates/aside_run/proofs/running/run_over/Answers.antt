use Rattle.std.proofs.Common.{inl, inr, map}
use Rattle.command_line.specs.Words.{texts_of}
use Rattle.aside_run.proofs.Well.{completes_over}
use Rattle.aside_run.proofs.running.run_over.Goals as goal

pub returns-in-Some-clause-disk_fault : goal.returns-in-Some-clause-disk_fault
returns-in-Some-clause-disk_fault g c = λ is. elim (c.run_aside.ensures.disk_fault is) [
  | inl rose ↦ inl rose
  | inr under ↦ inr ((c.in-Ok.job, _, record { asks = c.in-Ok.ensures.ok; over = c.in-Some.is }), under)
]

pub returns-in-Some-clause-complete_over : goal.returns-in-Some-clause-complete_over
returns-in-Some-clause-complete_over g c = λ tells tells_base well.
    let e = c.run_aside.ensures in
    completes_over (λ image one other. c.one_commit.ensures image one other) (map g.V.Viewer.meaning c.args.viewers.now) (texts_of c.args.words.now) (g.B.Disk.outside c.args.base.now).now.disk.seen
    (g.B.Disk.outside c.args.base.now).disk_faults (g.B.Disk.outside c.run_aside.new.base).disk_faults (g.H.Disk.outside c.args.host.now) (g.H.Disk.outside c.run_aside.new.host) well c.in-Ok.job.mode c.in-Ok.job.cap c.run_aside.result
    (e.ran tells tells_base) e.right e.take_fault e.say_fault g.H.Disk.tells tells (λ is. elim (e.disk_fault is) [ inl rose ↦ inl rose | inr (inl rose) ↦ inr (inl rose) | inr (inr worn) ↦ inr (inr (worn tells_base)) ])
