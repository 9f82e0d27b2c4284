use Rattle.std.proofs.lemmas.Result.{err_from_is_err_and}
use Rattle.aside_disk.proofs.Synced.{keeps_idle, keeps_still, rests_syncs, told_unsure}
use Rattle.aside_disk.proofs.syncing.rest.Goals as goal

pub returns-in_err-sync-clause-told : goal.returns-in_err-sync-clause-told
returns-in_err-sync-clause-told g c = λ tells base number lower_since upper_since seen is.
    let p = err_from_is_err_and c.from_residual.result c.from_residual.ensures.1 in
    let lower = g.D.Disk.outside c.args.disk.now in
    let begun = told_unsure base number c.args.log.now lower_since upper_since lower seen is in
    let still = keeps_still base number _ lower_since upper_since lower seen begun (g.D.Disk.outside c.sync.new.self) (c.in_err-sync.ensures.syncs tells).err in
    rw p.1 (record { told = still.told; spent = still.spent })

pub returns-clause-told : goal.returns-clause-told
returns-clause-told g c = λ tells base number lower_since upper_since seen is.
    keeps_idle base number c.args.log.now lower_since upper_since (g.D.Disk.outside c.args.disk.now) seen is (g.D.Disk.outside c.sync.new.self) (rests_syncs (c.in_ok-sync.ensures.syncs tells)) c.requires.sure c.requires.ended
