use Rattle.std.proofs.Common.{arith}
use Rattle.std.proofs.lemmas.Result.{err_from_is_err_and}
use Rattle.host_io.proofs.Ranges.{Puts-writes, PutsAndSyncs-failed, PutsAndSyncs-synced}
use Rattle.commit_marks.proofs.writing.write_gate.Goals as goal

pub returns-in_err-write_at-clause-writes : goal.returns-in_err-write_at-clause-writes
returns-in_err-write_at-clause-writes g c = λ tells.
    let p = err_from_is_err_and c.from_residual.result c.from_residual.ensures.1 in
    rw p.1 (PutsAndSyncs-failed (Puts-writes (let l = c.requires.long tells in omega (arith, l, c.requires.low)) (rw c.slot_place.ensures at (c.in_err-write_at.ensures.writes tells))))

pub returns-clause-writes : goal.returns-clause-writes
returns-clause-writes g c = λ tells.
    PutsAndSyncs-synced c.sync.result (Puts-writes (let l = c.requires.long tells in omega (arith, l, c.requires.low)) (rw c.slot_place.ensures at (c.in_ok-write_at.ensures.writes tells))) (c.sync.ensures.syncs tells)
