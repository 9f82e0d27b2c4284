use Rattle.std.proofs.lemmas.Result.{err_from_is_err_and}
use Rattle.host_io.proofs.Ranges.{Puts-writes}
use Rattle.block_io.proofs.Pieces.{next_failed, next_written}
use Rattle.block_io.proofs.writing.write_next.Goals as goal

pub returns-in_err-write_at-clause-writes : goal.returns-in_err-write_at-clause-writes
returns-in_err-write_at-clause-writes g c = λ tells.
    let p = err_from_is_err_and c.from_residual.result c.from_residual.ensures.1 in
    rw p.1 (next_failed c.fill_piece-len.ensures (Puts-writes (c.requires.within tells) (c.in_err-write_at.ensures.writes tells)))

pub returns-clause-writes : goal.returns-clause-writes
returns-clause-writes g c = λ tells.
    next_written c.fill_piece-len.ensures (Puts-writes (c.requires.within tells) (c.in_ok-write_at.ensures.writes tells))
