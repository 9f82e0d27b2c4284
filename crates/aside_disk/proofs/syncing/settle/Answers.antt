use Rattle.std.proofs.Common.{◌≡◌, sym, ◌∙◌, Result, Err}
use Rattle.std.proofs.lemmas.Result.{err_from_is_err_and}
use Rattle.aside_disk.proofs.Synced.{keeps_found, keeps_rests, keeps_still, never_refused, rests_syncs}
use Rattle.aside_disk.proofs.syncing.settle.Goals as goal

pub returns-in_err-sync-clause-told : goal.returns-in_err-sync-clause-told
returns-in_err-sync-clause-told g c = λ tells base number lower_since upper_since seen is.
    keeps_still base number c.args.log.now lower_since upper_since (g.D.Disk.outside c.args.disk.now) seen is (g.D.Disk.outside c.sync.new.self) (c.in_err-sync.ensures.syncs tells).err

pub returns-in_err-log-clause-told : goal.returns-in_err-log-clause-told
returns-in_err-log-clause-told g c = λ tells base number lower_since upper_since seen is.
    keeps_rests base number c.args.log.now lower_since upper_since (g.D.Disk.outside c.args.disk.now) seen is (g.D.Disk.outside c.sync.new.self) (rests_syncs (c.in_ok-sync.ensures.syncs tells))
    (g.D.Disk.outside c.read_log_marks.new.disk) (c.in_err-log.ensures.same tells).still

pub returns-in_err-log-clause-accepted : goal.returns-in_err-log-clause-accepted
returns-in_err-log-clause-accepted g c = λ tells base number lower_since upper_since seen is refused.
    let p = err_from_is_err_and c.from_residual-in_err-log.result c.from_residual-in_err-log.ensures.1 in
    never_refused base number c.args.log.now lower_since upper_since (g.D.Disk.outside c.args.disk.now) seen is (g.D.Disk.outside c.sync.new.self) (rests_syncs (c.in_ok-sync.ensures.syncs tells)) _ (c.in_err-log.ensures.gives tells)
    (sym p.2 ∙ error_is c.from_residual-in_err-log.result p.1 refused)
  where
    error_is : {T E : Type 0} {a b : E} (r : Result T E) → r ≡ Err a → r ≡ Err b → a ≡ b
    error_is r one two = cc

pub returns-clause-told : goal.returns-clause-told
returns-clause-told g c = λ tells base number lower_since upper_since seen is.
    keeps_found base number c.args.log.now lower_since upper_since (g.D.Disk.outside c.args.disk.now) seen is (g.D.Disk.outside c.sync.new.self) (rests_syncs (c.in_ok-sync.ensures.syncs tells))
    (g.D.Disk.outside c.read_log_marks.new.disk) (c.in_ok-log.ensures.same tells).still c.in_ok-log.field-0 (c.in_ok-log.ensures.gives tells)
