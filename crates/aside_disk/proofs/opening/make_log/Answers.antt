use Rattle.std.proofs.Common.{arith}
use Rattle.std.proofs.lemmas.Result.{err_from_is_err_and}
use Rattle.host_io.proofs.Ranges.{PutsAndSyncs-failed, PutsAndSyncs-synced, Puts-writes}
use Rattle.aside_disk.proofs.opening.make_log.Goals as goal

pub returns-in_err-write_at-clause-makes : goal.returns-in_err-write_at-clause-makes
returns-in_err-write_at-clause-makes g c = λ tells.
    let p = err_from_is_err_and c.from_residual.result c.from_residual.ensures.1 in
    rw (p.1, ← c.new_bytes.ensures) (PutsAndSyncs-failed (Puts-writes (omega arith) (c.in_err-write_at.ensures.writes tells)))

pub returns-clause-makes : goal.returns-clause-makes
returns-clause-makes g c = λ tells. rw (← c.new_bytes.ensures) (PutsAndSyncs-synced c.sync.result (Puts-writes (omega arith) (c.in_ok-write_at.ensures.writes tells)) (c.sync.ensures.syncs tells))
