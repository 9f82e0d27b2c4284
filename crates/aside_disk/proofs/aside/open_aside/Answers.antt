use Rattle.std.proofs.Common.{subst, ℕ, Ok}
use Rattle.aside_disk.specs.Opening.{Opens}
use Rattle.aside_disk.proofs.Standing.{begins_is}
use Rattle.aside_disk.proofs.aside.open_aside.Goals as goal

pub returns-clause-begins : goal.returns-clause-begins
returns-clause-begins g c = λ tells.
    let opens = c.in_ok-log.ensures.opens tells in
    rw (c.over.ensures.same, c.over.ensures.begins) (begins_is _ c.args.base.bytes c.args.number c.in_ok-log.log (g.D.Disk.outside c.args.disk.now) (g.D.Disk.outside c.open_log.new.disk)
    (subst (λ (n : ℕ). Opens (record { length = n; number = c.args.number }) (g.D.Disk.outside c.args.disk.now) (g.D.Disk.outside c.open_log.new.disk) (Ok c.in_ok-log.log)) c.len.ensures opens))
