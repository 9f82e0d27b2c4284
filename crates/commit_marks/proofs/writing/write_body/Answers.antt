use Rattle.std.proofs.Common.{arith}
use Rattle.host_io.proofs.Ranges.{Puts-writes}
use Rattle.commit_marks.proofs.writing.write_body.Goals as goal

pub returns-clause-writes : goal.returns-clause-writes
returns-clause-writes g c = λ tells.
    Puts-writes (let l = c.requires.long tells in omega (arith, l, c.requires.low)) (rw (c.slot_place.ensures, c.slot_bytes-bytes.ensures) at (c.write_at.ensures.writes tells))
