use Rattle.std.proofs.Common.{◌≡◌, ◌≢◌, List, [], ℕ, inl, inr, map, subst, sym}
use Rattle.aside_run.specs.RanOver.{RanOverBase}
use Rattle.aside_run.specs.Steps.{WearsOut}
use Rattle.aside_run.proofs.Well.{base_cause, base_some}
use Rattle.aside_run.proofs.running.run_aside.Goals as goal

pub returns-in-Ok-open_base-clause-ran : goal.returns-in-Ok-open_base-clause-ran
returns-in-Ok-open_base-clause-ran g c = λ tells tells_base.
    let read = c.in-Ok-open_base.ensures.reads tells_base in
    let file = (g.B.Disk.outside c.args.base.now).now.disk.seen in
    inr (
      c.in-Ok-open_base.read.number,
      read.is,
      subst (λ (b : List ℕ). RanOverBase (map g.V.Viewer.meaning c.args.viewers.now) c.args.job.now.mode c.args.job.now.cap c.serve_over.result b c.in-Ok-open_base.read.number (g.H.Disk.outside c.args.host.now) (g.H.Disk.outside c.serve_over.new.host))
          read.bytes (c.serve_over.ensures.ran tells (subst (λ (b : List ℕ). b ≢ []) (sym read.bytes) (base_some file c.in-Ok-open_base.read.number read.is))),
    )

pub returns-in-Ok-open_base-clause-disk_fault : goal.returns-in-Ok-open_base-clause-disk_fault
returns-in-Ok-open_base-clause-disk_fault g c = λ is. elim (c.serve_over.ensures.disk_fault is) [
  | inl rose ↦ inl rose
  | inr worn ↦ inr (inr (λ tells_base. subst (λ (b : List ℕ). WearsOut g.H.Disk.tells (g.H.Disk.outside c.args.host.now).disk_faults b (g.H.Disk.outside c.serve_over.new.host).now.disk.seen)
      (c.in-Ok-open_base.ensures.reads tells_base).bytes worn))
]

pub returns-clause-ran : goal.returns-clause-ran
returns-clause-ran g c = λ tells tells_base.
    let file = (g.B.Disk.outside c.args.base.now).now.disk.seen in
    inl (c.refuse_base.ensures.ends tells file (base_cause file c.in-Err.error (c.in-Err.ensures.bad tells_base)))
