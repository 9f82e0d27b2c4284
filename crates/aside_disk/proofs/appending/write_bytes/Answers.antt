use Rattle.std.proofs.Common.{◌+◌, sym, subst, arith, ℕ, List, Ok, Err}
use Rattle.std.proofs.lemmas.Result.{err_from_is_err_and}
use Rattle.aside_disk.specs.Appending.{Lays}
use Rattle.aside_disk.proofs.Appends.{lays_fails, lays_joins, lays_writes}
use Rattle.aside_disk.proofs.appending.write_bytes.Goals as goal

pub returns-then-bytes-le-MAX_WRITE-clause-lays : goal.returns-then-bytes-le-MAX_WRITE-clause-lays
returns-then-bytes-le-MAX_WRITE-clause-lays g c = λ tells. lays_writes c.write_at.result (c.requires.within tells) (c.write_at.ensures.writes tells)

pub returns-in_err-write_at-clause-lays : goal.returns-in_err-write_at-clause-lays
returns-in_err-write_at-clause-lays g c = λ tells.
    let p = err_from_is_err_and c.from_residual.result c.from_residual.ensures.1 in
    let s = c.split_at.ensures in
    rw p.1 (subst (λ (l : List ℕ). Lays c.args.place l (g.D.Disk.outside c.args.disk.now) (g.D.Disk.outside c.write_at-2.new.self) (Err _)) (sym s.by_index.0)
    (lays_fails c.args.place c.split_at.result.0.now c.split_at.result.1.now _ _ (lays_writes (Err _) (c.requires.within tells) (c.in_err-write_at.ensures.writes tells))))

pub returns-clause-lays : goal.returns-clause-lays
returns-clause-lays g c = λ tells.
    let s = c.split_at.ensures in
    let old = g.D.Disk.outside c.args.disk.now in
    let mid = g.D.Disk.outside c.write_at-2.new.self in
    let new = g.D.Disk.outside c.write_at-3.new.self in
    let first = lays_writes (Ok tt) (c.requires.within tells) (c.in_ok-write_at.ensures.writes tells) in
    let long = first.ok.0 in
    let len = s.front_len in
    let then = lays_writes c.write_at-3.result (omega (arith, long, len)) (c.write_at-3.ensures.writes tells) in
    subst (λ (l : List ℕ). Lays c.args.place l old new c.write_at-3.result) (sym s.by_index.0)
    (lays_joins c.args.place c.split_at.result.0.now c.split_at.result.1.now old mid c.write_at-3.result new first
    (subst (λ (k : ℕ). Lays (c.args.place + k) c.split_at.result.1.now mid new c.write_at-3.result) (sym len) then))
