use Rattle.std.proofs.Common.{rules, subst, ℕ, take}
use Rattle.aside_disk.specs.Appending.{Lays}
use Rattle.aside_disk.proofs.Appends.{appends_lays}
use Rattle.aside_disk.proofs.appending.append.Goals as goal

pub returns-clause-appends : goal.returns-clause-appends
returns-clause-appends g c = λ tells.
    let l = c.record_len-len.ensures in
    appends_lays c.args.end (record { place = c.args.place; bytes = c.args.from.now }) c.record_bytes-bytes.result (search rules) c.record_bytes-bytes.ensures c.write_bytes.result
    (subst (λ (k : ℕ). Lays c.args.end (take k c.record_bytes-bytes.result) (g.D.Disk.outside c.args.disk.now) (g.D.Disk.outside c.write_bytes.new.disk) c.write_bytes.result) l (c.write_bytes.ensures.lays tells))
