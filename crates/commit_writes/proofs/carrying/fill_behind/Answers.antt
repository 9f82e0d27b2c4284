use Rattle.std.proofs.lemmas.Result.{err_from_is_err_and}
use Rattle.commit_writes.proofs.Filling.{fills_synced, fills_unless_blocks, fills_unless_body, has_filled}
use Rattle.std.proofs.Common.{Err, Ok}
use Rattle.commit_writes.proofs.carrying.fill_behind.Goals as goal

pub returns-in_err-write-clause-fills : goal.returns-in_err-write-clause-fills
returns-in_err-write-clause-fills g c = λ tells.
    let p = err_from_is_err_and c.from_residual.result c.from_residual.ensures.1 in
    rw p.1 (fills_unless_blocks (c.in_err-write.ensures.writes tells))

pub returns-in_err-write_body-clause-fills : goal.returns-in_err-write_body-clause-fills
returns-in_err-write_body-clause-fills g c = λ tells.
    let p = err_from_is_err_and c.from_residual-in_err-write_body.result c.from_residual-in_err-write_body.ensures.1 in
    rw p.1 (fills_unless_body (has_filled (Err c.in_err-write_body.field-0.0) c.requires.low (c.requires.long tells) c.requires.writable.each (c.in_ok-write.ensures.writes tells) (c.in_err-write_body.ensures.writes tells)))

pub returns-clause-fills : goal.returns-clause-fills
returns-clause-fills g c = λ tells.
    fills_synced c.sync.result (has_filled (Ok c.in_ok-write_body.field-0) c.requires.low (c.requires.long tells) c.requires.writable.each (c.in_ok-write.ensures.writes tells) (c.in_ok-write_body.ensures.writes tells)) (c.sync.ensures.syncs tells)
