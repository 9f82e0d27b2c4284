use Rattle.std.proofs.Common.{◌≡◌, ◌∙◌, ℕ, Err, Ok, arith, inl, inr, map, rules, subst}
use Rattle.host_io.proofs.Faults.{CountsFaults-disk}
use Rattle.aside_disk.specs.Opening.{Opens}
use Rattle.aside_run.proofs.Ended.{opens_none, serves_over}
use Rattle.aside_run.proofs.serving.serve_over.Goals as goal

pub returns-in-Ok-clause-ran : goal.returns-in-Ok-clause-ran
returns-in-Ok-clause-ran g c = λ tells some.
    let e = c.in-Ok.ensures in
    let mid = g.H.Disk.outside c.attach.new.self in
    let opened = g.H.Disk.outside c.open_log.new.disk in
    inr (serves_over (map g.V.Viewer.meaning c.args.viewers.now) c.args.job.now.mode c.args.job.now.cap c.serve_log.result c.args.base.bytes.bytes c.args.base.number c.in-Ok.log (g.H.Disk.outside c.args.host.now) mid opened
    (g.H.Disk.outside c.serve_log.new.host) some c.requires.fits (search rules) (c.attach.ensures.same tells) _ _ (CountsFaults-disk ⊥ c.attach.ensures.counts (λ never. absurd never))
    (subst (λ (n : ℕ). Opens (record { length = n; number = c.args.base.number }) mid opened (Ok c.in-Ok.log)) c.len.ensures (e.opens tells)) e.counts (e.since tells) (c.serve_log.ensures.served tells))

pub returns-in-Ok-clause-disk_fault : goal.returns-in-Ok-clause-disk_fault
returns-in-Ok-clause-disk_fault g c = λ is.
    let a = c.attach.ensures.counts.disk.later in
    let b = c.in-Ok.ensures.counts.later in
    c.serve_log.ensures.disk_fault is (g.H.Disk.outside c.args.host.now).disk_faults (omega (arith, a, b))

pub returns-in-Err-clause-ran : goal.returns-in-Err-clause-ran
returns-in-Err-clause-ran g c = λ tells some.
    let e = c.in-Err.ensures in
    let mid = g.H.Disk.outside c.attach.new.self in
    let opened = g.H.Disk.outside c.open_log.new.disk in
    inl (opens_none c.refuse_aside.result c.args.base.bytes.bytes c.args.base.number _ _ c.in-Err.error (g.H.Disk.outside c.args.host.now) mid opened (g.H.Disk.outside c.refuse_aside.new.host)
    (c.attach.ensures.same tells) (CountsFaults-disk ⊥ c.attach.ensures.counts (λ never. absurd never)) e.counts
    (subst (λ (n : ℕ). Opens (record { length = n; number = c.args.base.number }) mid opened (Err c.in-Err.error)) c.len.ensures (e.opens tells)) (e.said tells) (e.input tells) (e.moments tells) (e.untouched tells)
    (c.refuse_aside.ensures.ends tells))
